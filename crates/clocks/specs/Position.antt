-- The sequencer's position, -1 to 7. Assumes nothing.
use Rattle.std.specs.Prelude.{ℕ, ◌+◌, ◌%◌, ◌≤◌, ◌≡◌, Bool, eqb, ℤ, pos, negsuc}

-- "sequencer -1..7": `pos n` is n, `negsuc n` is -1 - n
abbrev pub PositionHeld : ℤ → Type 0
PositionHeld (pos n) = n ≤ 7
PositionHeld (negsuc n) = n ≡ 0

-- "the next position (position+1)"; after -1 it is 0
abbrev pub next_of : ℤ → ℕ
next_of (pos n) = n + 1
next_of (negsuc n) = 0

-- "the next position is even": 0 is
abbrev pub next_even : ℤ → Bool
next_even z = eqb (next_of z % 2) 0
