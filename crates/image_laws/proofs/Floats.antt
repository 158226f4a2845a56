-- A capacitor's pattern gives it back and a sample counter's gives it back, because no pattern in their ranges is a NaN's. Assumes nothing.
use mathlib.Core.Path.{◌≡◌, sym, subst, ap, ◌∙◌}
use mathlib.Core.Bool.{Bool, not}
use Prim.Native.Nat.{ℕ, ◌^◌, ◌≤◌, ◌<◌}
use native.Mathlib.Omega.{arith}
use lib.Dec.{T}
use lib.Ieee.{Float, binary32, binary64, of_bits, to_bits, fits}
use lib.Ieee.Bits.{of_bits-to_bits, of_bits-fits, to_bits-of_bits, to_bits-lt, nan_bits_is}
use Rattle.ground.proofs.Same.{units_fit}
use Rattle.clocks.specs.Counter.{Kept}
use Rattle.frame.specs.Held as float
use Rattle.frame.specs.Held.{Charge}
use Rattle.frame.specs.declared.converter.Converter.{Converter}
use Rattle.image_fields.specs.Floats.{Measure, charge_of, is_kept, counter_of}
use Rattle.image_fields.proofs.Patterns.{no_nan_bits, charge_read, kept_no_nan, counter_read}
use Rattle.image_fields.proofs.Keeping.{units_kept, kept_units}
use Rattle.image_laws.proofs.Charges.{charge_pattern, pattern_charge}

-- ---- a capacitor
pub charge_back : (x : Float) → T (fits binary32 x) → to_bits binary32 x ≤ 0x3F80_0000 → charge_of (to_bits binary32 x) ≡ x
charge_back x f h = charge_read (to_bits binary32 x) h ∙ of_bits-to_bits binary32 x f

pub charge_same : (n : ℕ) → n ≤ 0x3F80_0000 → to_bits binary32 (charge_of n) ≡ n
charge_same n h =
    let number = subst (λ (b : Bool). T (not b)) (nan_bits_is binary32 n) (no_nan_bits n h) in
    ap (to_bits binary32) (charge_read n h) ∙ to_bits-of_bits binary32 n (omega arith) number

-- the pattern of a converter in its range, and the range of what such a pattern is read as
pub held_pattern : (d : Converter) → float.Held d → to_bits binary32 d.capacitor ≤ 0x3F80_0000
held_pattern d k = charge_pattern d.capacitor k.charge

pub pattern_held : (n : ℕ) → n ≤ 0x3F80_0000 → float.Held (record { capacitor = charge_of n })
pattern_held n h =
    record {
      single = subst (λ (x : Float). T (fits binary32 x)) (sym (charge_read n h)) (of_bits-fits binary32 n);
      charge = subst Charge (sym (charge_read n h)) (pattern_charge n h);
    }

-- ---- the sample counter
module _ (u M : ℕ) where
  kept_fits : (x : Float) → Kept u M x → T (fits binary64 x)
  kept_fits x k = subst (λ (y : Float). T (fits binary64 y)) (sym k.is) (units_fit binary64 u k.units)

  pub counter_lt : (x : Float) → Kept u M x → to_bits binary64 x < 2 ^ 64
  counter_lt x k = to_bits-lt binary64 x (kept_fits x k)

  pub counter_same : (n : ℕ) → n < 2 ^ 64 → T (is_kept u M (of_bits binary64 n)) → to_bits binary64 (counter_of u M n) ≡ n
  counter_same n l t = ap (to_bits binary64) (counter_read u M n t) ∙ to_bits-of_bits binary64 n l (kept_no_nan u M (of_bits binary64 n) t)

  module _ (m : Measure u M) where
    pub counter_fits : (x : Float) → Kept u M x → T (is_kept u M (of_bits binary64 (to_bits binary64 x)))
    counter_fits x k = subst (λ (y : Float). T (is_kept u M y)) (sym (of_bits-to_bits binary64 x (kept_fits x k))) (units_kept u M m x k)

    pub counter_back : (x : Float) → Kept u M x → counter_of u M (to_bits binary64 x) ≡ x
    counter_back x k = counter_read u M (to_bits binary64 x) (counter_fits x k) ∙ of_bits-to_bits binary64 x (kept_fits x k)

    pub counter_held : (n : ℕ) → T (is_kept u M (of_bits binary64 n)) → Kept u M (counter_of u M n)
    counter_held n t = subst (Kept u M) (sym (counter_read u M n t)) (kept_units u M m (of_bits binary64 n) (of_bits-fits binary64 n) t)
