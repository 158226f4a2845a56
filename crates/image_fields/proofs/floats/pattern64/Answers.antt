-- `to_bits` gives 7FF8000000000000 at the NaN. Assumes nothing.
use mathlib.Core.Path.{◌≡◌, refl, sym, ◌∙◌}
use mathlib.Core.Bool.{true}
use Prim.Native.Nat.{ℕ}
use lib.Ieee.{Float, nan, inf, fin, binary64, is_nan, to_bits}
use Rattle.image_fields.proofs.floats.pattern64.Goals as goal

nan_pattern : ◌≡◌ {A = ℕ} 0x7FF8_0000_0000_0000 (to_bits binary64 nan)
unfolding to_bits
nan_pattern = refl

of_nan : (x : Float) → is_nan x ≡ true → 0x7FF8_0000_0000_0000 ≡ to_bits binary64 x
unfolding is_nan
of_nan nan e = nan_pattern
of_nan (inf s) e = cc
of_nan (fin s m k) e = cc

pub returns-then-is_nan : goal.returns-then-is_nan
returns-then-is_nan c = of_nan c.args.x (sym c.is_nan.ensures.value ∙ c.if-is_nan.true)
