-- "floats as patterns", and which floats an image may hold. Quotes are request 2026-01's. Assumes nothing.
use Rattle.std.specs.Prelude.{ℕ, ◌*◌, ◌/◌, ◌%◌, ◌^◌, ◌≤◌, ◌<◌, Bool, true, false, ◌&&◌, eqb, leb, ltb, Float}
use Rattle.std.specs.Float.{nan, inf, fin, binary32, binary64}
use Rattle.std.specs.Float.Ieee.{up, down, of_bits}
use Rattle.ground.specs.Pick.{pick}

-- "no sign bit in any float, capacitors at most 1": the patterns from 0 to that of 1.0
abbrev pub is_charge : ℕ → Bool
is_charge pattern = leb pattern 0x3F80_0000

-- the capacitor of such a pattern; 0 for any other
unfoldable pub charge_of : ℕ → Float
charge_of pattern = pick (is_charge pattern) (of_bits binary32 pattern) (of_bits binary32 0)

-- N as M units of 2 ^ -u that an f64 tells apart: it has 53 digits, and a smallest value far below a unit
pub record Measure (u M : ℕ) : Type 0 where
  pub deep : u ≤ 1000
  pub some : 0 < M
  pub few : M ≤ 2 ^ 53

-- "no sign bit in any float, .. the sample counter a whole number of 2^-48 below N", with N as M units of 2 ^ -u (at 44100 u is 48 and M is K);
-- `fin s m e` is m * 2 ^ e with the sign s, and 2 ^ e is up e / down e
unfoldable pub is_kept : ℕ → ℕ → Float → Bool
is_kept u M nan = false
is_kept u M (inf s) = false
is_kept u M (fin true m e) = false
is_kept u M (fin false m e) = eqb (m * up e * 2 ^ u % down e) 0 && ltb (m * up e * 2 ^ u / down e) M

-- the sample counter of such a pattern; 0 for any other
unfoldable pub counter_of : ℕ → ℕ → ℕ → Float
counter_of u M pattern = pick (is_kept u M (of_bits binary64 pattern)) (of_bits binary64 pattern) (of_bits binary64 0)
