-- Other sample rates: the e and the K of a whole rate, with which request 2026-08 has demand 3 read. Assumes nothing.
use Rattle.std.specs.Prelude.{ℕ, suc, ◌-◌, ◌*◌, ◌/◌, ◌^◌, ◌≤◌, ◌<◌}
use Rattle.std.specs.Float.Ieee.{size}
use Rattle.std.specs.Float.Ieee.Nearest.{closest}

-- 2 ^ e is the largest power of two not above 1048576 / rate
pub record Exponent (rate e : ℕ) : Type 0 where
  pub lo : 2 ^ e * rate ≤ 1048576
  pub hi : 1048576 < 2 ^ suc e * rate

-- request 2026-08: "K is the whole number nearest to 2^(72-e)/rate"
abbrev pub KAt : ℕ → ℕ → ℕ
KAt e rate = closest (2 ^ (72 - e)) rate

-- e worked out: one less than the binary digits of the whole part of 1048576 / rate
abbrev pub exponent_of : ℕ → ℕ
exponent_of rate = size (1048576 / rate) - 1
