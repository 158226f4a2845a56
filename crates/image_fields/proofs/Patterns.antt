-- The patterns that a capacitor or a sample counter may have are no NaN's, so that each is read as the float that it is. Assumes nothing.
use mathlib.Core.Path.{◌≡◌, refl, sym, subst}
use mathlib.Core.Bool.{Bool, true, false, not, ◌&&◌}
use Prim.Native.Nat.{ℕ, ◌/◌, ◌%◌, ◌^◌, ◌≤◌}
use native.Mathlib.Omega.{arith}
use lib.Dec.{T, eqb, leb, not_T, eqb→eq, le→leb}
use lib.Ieee.{Float, nan, inf, fin, binary32, binary64, of_bits, is_nan, nan_bits}
use lib.Ieee.Fits.{and_l}
use lib.Ieee.Bits.{nan_bits_is}
use Rattle.image_fields.specs.Floats.{charge_of, is_kept, counter_of}
use Rattle.ground.specs.Pick.{pick}

pub no_nan_bits : (n : ℕ) → n ≤ 0x3F80_0000 → T (not (nan_bits binary32 n))
unfolding nan_bits
no_nan_bits n h =
    let infinite = eqb (n % 2 ^ 31 / 2 ^ 23) 255 in
    let some = not (eqb (n % 2 ^ 23) 0) in
    not_T (infinite && some) (λ t. low n h (eqb→eq (n % 2 ^ 31 / 2 ^ 23) 255 (and_l infinite some t)))
  where
    low : (n : ℕ) → n ≤ 0x3F80_0000 → n % 2 ^ 31 / 2 ^ 23 ≡ 255 → ⊥
    low n h e = omega arith

pub charge_read : (n : ℕ) → n ≤ 0x3F80_0000 → charge_of n ≡ of_bits binary32 n
unfolding charge_of pick
charge_read n h = go (leb n 0x3F80_0000) (le→leb n 0x3F80_0000 h)
  where
    go : (b : Bool) → T b → pick b (of_bits binary32 n) (of_bits binary32 0) ≡ of_bits binary32 n
    go true t = refl
    go false t = absurd t

-- ---- the sample counter
pub kept_no_nan : (u M : ℕ) (x : Float) → T (is_kept u M x) → T (not (is_nan x))
unfolding is_kept is_nan
kept_no_nan u M nan t = absurd t
kept_no_nan u M (inf s) t = absurd t
kept_no_nan u M (fin s m e) t = tt

pub kept_no_nan_bits : (u M n : ℕ) → T (is_kept u M (of_bits binary64 n)) → T (not (nan_bits binary64 n))
kept_no_nan_bits u M n t = subst (λ (b : Bool). T (not b)) (sym (nan_bits_is binary64 n)) (kept_no_nan u M (of_bits binary64 n) t)

pub counter_read : (u M n : ℕ) → T (is_kept u M (of_bits binary64 n)) → counter_of u M n ≡ of_bits binary64 n
unfolding counter_of pick
counter_read u M n h = go (is_kept u M (of_bits binary64 n)) h
  where
    go : (b : Bool) → T b → pick b (of_bits binary64 n) (of_bits binary64 0) ≡ of_bits binary64 n
    go true t = refl
    go false t = absurd t
