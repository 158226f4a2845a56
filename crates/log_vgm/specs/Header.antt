-- What the header of a VGM file must have, from request 2026-05. Assumes nothing.
use Rattle.std.specs.Prelude.{ℕ, ◌+◌, ◌*◌, List, [], ◌∷◌, Bool, true, not, ◌||◌, length, get_or, ltb, eqb}
use Rattle.ground.specs.Pick.{pick}

-- numbers in a VGM file are low byte first
abbrev pub two_of : ℕ → ℕ → ℕ
two_of low high = low + high * 256

abbrev pub four_at : List ℕ → ℕ → ℕ
four_at s at = two_of (get_or s at 0) (get_or s (at + 1) 0) + two_of (get_or s (at + 2) 0) (get_or s (at + 3) 0) * 0x1_0000

-- "the mark": the letters V, g, m and a blank
abbrev pub mark : ℕ
mark = four_at (0x56 ∷ 0x67 ∷ 0x6D ∷ 0x20 ∷ []) 0

-- "the data offset at hex 34 counted from there"
abbrev pub start_of : List ℕ → ℕ
start_of s = 0x34 + four_at s 0x34

-- "The header is wrong exactly if one of these fails or the file is shorter than hex 84": "version 1.61 or later", "the mark", "Game Boy clock at hex 80 equal
-- to 4,194,304, data starting at hex 84 or later and not past the file's end"
unfoldable pub bad_header : List ℕ → Bool
bad_header s =
    pick (ltb (length s) 0x84) true
    (not (eqb (four_at s 0) mark)
    || (ltb (four_at s 8) 0x161 || (ltb (start_of s) 0x84 || (ltb (length s) (start_of s) || not (eqb (four_at s 0x80) 4_194_304)))))
