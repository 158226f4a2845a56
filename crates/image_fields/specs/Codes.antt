-- Two small codes of an image. Quotes are request 2026-01's. Assumes nothing.
use Rattle.std.specs.Prelude.{ℕ, Bool, ◌&&◌, ◌||◌, eqb, leb, ℤ, pos, negsuc}
use Rattle.ground.specs.Pick.{pick}

-- "-1 as FF": `pos n` is n, `negsuc n` is -1 - n
abbrev pub position_byte : ℤ → ℕ
position_byte (pos n) = n
position_byte (negsuc n) = 255

-- and back
unfoldable pub position_of : ℕ → ℤ
position_of byte = pick (leb byte 7) (pos byte) (negsuc 0)

-- the bytes of document 01's "sequencer -1..7"
abbrev pub position_test : ℕ → Bool
position_test byte = leb byte 7 || eqb byte 255

-- "the wave shift that of its volume or 0 at volume 0": of the volumes 0 to 3 the shifts are 4, 0, 1, 2
unfoldable pub shift_fits : ℕ → ℕ → Bool
shift_fits volume shift =
    (((eqb volume 0 && (eqb shift 4 || eqb shift 0)) || (eqb volume 1 && eqb shift 0)) || (eqb volume 2 && eqb shift 1)) || (eqb volume 3 && eqb shift 2)
