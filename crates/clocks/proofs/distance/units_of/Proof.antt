-- 2 ^ 48 times a kept counter is the whole number of its units, which the product holds unrounded and the cast gives back. Assumes nothing.
use mathlib.Core.Path.{◌≡◌, ap₂, ◌∙◌}
use Prim.Native.Nat.{ℕ, ◌<◌}
use native.Mathlib.Omega.{arith}
use lib.Dec.{T}
use lib.IntN.{pos}
use lib.Ieee.{Float, binary64, of_bits, of_int, mul, in_unsigned, to_unsigned}
use lib.Ieee.Back.{unsigned_back}
use Rattle.clocks.specs.Counter.{Kept}
use Rattle.clocks.specs.Calls.{K}
use Rattle.clocks.specs.Distance.{units_in}
use Rattle.clocks.proofs.Distances.{K-held, kept_is, kept_below, scale_is, scaled_up}
use Rattle.clocks.proofs.distance.units_of.Statement.{statement}
use Rattle.clocks.proofs.distance.units_of.Tie as tie

back : (k : ℕ) → k < K → T (in_unsigned binary64 64 (of_int binary64 (pos k))) × (to_unsigned 64 (of_int binary64 (pos k)) ≡ k)
back k h = unsigned_back binary64 64 k (K-held k h) (omega arith)

-- what the cast asks of the product, and what it gives
casts : (c : Float) → Kept 48 K c
    → let x = mul binary64 c (of_bits binary64 0x42f0_0000_0000_0000) in T (in_unsigned binary64 64 x) × (to_unsigned 64 x ≡ units_in c)
casts c h = rw (ap₂ (mul binary64) (kept_is c h) scale_is ∙ scaled_up (units_in c) (kept_below c h)) (back (units_in c) (kept_below c h))

returns : tie.Need-returns
returns c = (casts c.before.args.counter c.before.requires).1

pub units_of_spec : {M : Type 1} → statement M
units_of_spec = tie.close (tie.spec (λ c. (casts c.before.args.counter c.before.requires).0) returns)
