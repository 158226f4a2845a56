-- Sums, differences and the order of floats that are whole numbers of units of 2 ^ -u, in either format: those of the whole numbers, with nothing rounded.
-- Assumes nothing.
use mathlib.Core.Path.{◌≡◌, refl, sym, ap, ◌∙◌}
use mathlib.Core.Bool.{false}
use Prim.Native.Nat.{ℕ, suc, ◌+◌, ◌-◌, ◌*◌, ◌^◌, ◌≤◌, ◌<◌}
use native.Mathlib.Nat.{lt_of_lt_of_le, mul_assoc, mul-le-mul_right, le_of_mul-le-mul_right}
use native.Mathlib.Omega.{arith}
use lib.Dec.{leb, leb→le, le→leb}
use lib.Pow.{pow-add, pow_pos, pow_mono, shl_lt}
use lib.Ieee.{Float, Format, prec, emax, low, round, add, sub, div, le}
use lib.Ieee.Digits.{back}
use lib.Ieee.Fits.{reach}
use lib.Ieee.Exact.{HasValue, round_exact}
use lib.Ieee.Order.{le_of_values}
use lib.Ieee.Positive.{positive_of_value, values_of_le}
use Rattle.ground.specs.Units.{units_of}
use Rattle.ground.proofs.Rounded.{both, plus_sum, up_sum, add_is, sub_is, div_is}

-- ---- k units are exactly k / 2 ^ u, for a k that has no more digits than the format keeps
room : (p e l u : ℕ) → p ≤ e → p + (l - u) ≤ l + e
room p e l u h = omega arith

pub exact : (f : Format) (u k : ℕ) → u ≤ low f → k < 2 ^ prec f → HasValue (units_of f u k) false k (2 ^ u)
unfolding units_of
exact f u k U h =
    round_exact f false k (2 ^ u) k (low f - u) (pow_pos u) h
    (lt_of_lt_of_le (shl_lt (prec f) (low f - u) h) (pow_mono (room (prec f) (suc (emax f)) (low f) u (reach f))))
    (ap (λ (x : ℕ). k * x) (ap (λ (x : ℕ). 2 ^ x) (sym (back (low f) u U)) ∙ pow-add 2 (low f - u) u) ∙ sym (mul_assoc k (2 ^ (low f - u)) (2 ^ u)))

pub add_at : (f : Format) (x y : Float) (a b c : ℕ) → 0 < c → HasValue x false a c → HasValue y false b c → add f x y ≡ round f false (a + b) c
add_at f x y a b c C p q = add_is f x y false false a b c C p q ∙ plus_sum f a b c

pub sub_at : (f : Format) (x y : Float) (a b c : ℕ) → 0 < c → HasValue x false a c → HasValue y false b c → b ≤ a → sub f x y ≡ round f false (a - b) c
sub_at f x y a b c C p q h = sub_is f x y false false a b c C p q ∙ up_sum f a b c h

pub div_at : (f : Format) (x y : Float) (a b c d : ℕ) → 0 < c → 0 < b → HasValue x false a c → HasValue y false b d → div f x y ≡ round f false (a * d) (c * b)
div_at f x y a b c d C B p q = div_is f x y false false a c b d C B p q

-- for values above zero
pub le_at : (x y : Float) (a b c : ℕ) → 0 < c → 0 < a → 0 < b → HasValue x false a c → HasValue y false b c → le x y ≡ leb a b
le_at x y a b c C A B p q =
    both (le x y) (leb a b)
    (λ t. le→leb a b (le_of_mul-le-mul_right (values_of_le x y a c b c (positive_of_value x a c p A) (positive_of_value y b c q B) p q t) C))
    (λ t. le_of_values x y a c b c C C p q (mul-le-mul_right c (leb→le a b t)))

-- ---- units
module _ (f : Format) (u : ℕ) (U : u ≤ low f) where
  pub add_units : (a b : ℕ) → a < 2 ^ prec f → b < 2 ^ prec f → add f (units_of f u a) (units_of f u b) ≡ units_of f u (a + b)
  add_units a b A B = add_at f (units_of f u a) (units_of f u b) a b (2 ^ u) (pow_pos u) (exact f u a U A) (exact f u b U B) ∙ unfold units_of in refl

  pub sub_units : (a b : ℕ) → a < 2 ^ prec f → b < 2 ^ prec f → b ≤ a → sub f (units_of f u a) (units_of f u b) ≡ units_of f u (a - b)
  sub_units a b A B h = sub_at f (units_of f u a) (units_of f u b) a b (2 ^ u) (pow_pos u) (exact f u a U A) (exact f u b U B) h ∙ unfold units_of in refl

  pub le_units : (a b : ℕ) → a < 2 ^ prec f → b < 2 ^ prec f → 0 < a → 0 < b → le (units_of f u a) (units_of f u b) ≡ leb a b
  le_units a b A B P Q = le_at (units_of f u a) (units_of f u b) a b (2 ^ u) (pow_pos u) P Q (exact f u a U A) (exact f u b U B)
