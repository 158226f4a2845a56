-- From converters in their ranges a channel's number in a frame lies within the f32 nearest to 0.2 and a sum of four within 1, whatever the signs: rounding
-- keeps the order, so it is computed at the ends. So no number of a frame is a NaN. Assumes nothing.
use mathlib.Core.Path.{◌≡◌, refl, sym, subst, ◌∙◌}
use mathlib.Core.Bool.{Bool, true, false, ◌&&◌, beq, cond}
use Prim.Native.Nat.{ℕ, ◌+◌, ◌-◌, ◌*◌, ◌%◌, ◌/◌, ◌^◌, ◌≤◌, ◌<◌}
use native.Mathlib.Nat.{le_refl, le_trans, mul-le-mul_right, mul-le-mul_left}
use native.Mathlib.Omega.{arith}
use lib.Dec.{ltb, lit<, lit≤}
use lib.Pow.{pow_pos}
use lib.IntN.{pos}
use lib.Ieee.{Float, nan, inf, fin, binary32, size, unlike, round, sum, add, mul, div, of_int, of_bits, is_nan}
use lib.Ieee.Exact.{HasValue}
use lib.Ieee.Back.{round_whole}
use lib.Ieee.Scale.{grid}
use Rattle.ground.proofs.Rounded.{grid_mono, grid_le, plus_sum, add_is, mul_is, div_is}
use Rattle.frame.specs.Converter.{f0}
use Rattle.frame.specs.Mixing.{f1, f5, f8, side_of, sides_of, voiced, sum4, mixed}
use Rattle.frame.specs.Held.{units_of_one, fifth, Held, Within, Number, Numbers}
use Rattle.frame.specs.declared.converter.Converter.{Converter}
use Rattle.frame.specs.declared.mixing.Sides.{Sides}
use Rattle.frame.proofs.Ranges.{lands, int_value, sign, signed, sized, silent, stepped_within}

f1_value : HasValue f1 false 1 1
unfolding of_bits
f1_value = (refl, refl)

f5_value : HasValue f5 false 5 1
unfolding of_bits
f5_value = (refl, refl)

f8_value : HasValue f8 false 8 1
unfolding of_bits
f8_value = (refl, refl)

-- ---- a rounded fraction a / c is within what a fraction b / d above it rounds to
lands_within : (x : Float) (s : Bool) (a c b d k : ℕ) → x ≡ round binary32 s a c → 0 < c → 0 < d → a * d ≤ b * c
    → grid binary32 b d ≤ k → k ≤ units_of_one → Within k x
lands_within x s a c b d k e C D h g K =
    let l : grid binary32 a c ≤ k = le_trans (grid_mono binary32 a c b d C D h) g in
    sized k x s (grid binary32 a c) (lands x s a c e (le_trans l K)) l

-- times and by a whole number n
mul_within : (x y : Float) (j n k : ℕ) → HasValue y false n 1 → Within j x
    → grid binary32 (j * n) (units_of_one * 1) ≤ k → k ≤ units_of_one → Within k (mul binary32 x y)
mul_within x y j n k v w g K =
    lands_within (mul binary32 x y) (unlike (sign x) false) (w.units * n) (units_of_one * 1) (j * n) (units_of_one * 1) k
    (mul_is binary32 x y (sign x) false w.units units_of_one n 1 (pow_pos 149) (lit< tt) (signed x w.units units_of_one w.is) v)
    (pow_pos 149) (pow_pos 149) (mul-le-mul_right (units_of_one * 1) (mul-le-mul_right n w.most)) g K

div_within : (x y : Float) (j n k : ℕ) → HasValue y false n 1 → 0 < n → 0 < units_of_one * n → Within j x
    → grid binary32 (j * 1) (units_of_one * n) ≤ k → k ≤ units_of_one → Within k (div binary32 x y)
div_within x y j n k v N P w g K =
    lands_within (div binary32 x y) (unlike (sign x) false) (w.units * 1) (units_of_one * n) (j * 1) (units_of_one * n) k
    (div_is binary32 x y (sign x) false w.units units_of_one n 1 (pow_pos 149) N (signed x w.units units_of_one w.is) v)
    P P (mul-le-mul_right (units_of_one * n) (mul-le-mul_right 1 w.most)) g K

-- a sum, of whichever signs
sum_within : (s t : Bool) (a b j l k : ℕ) → a ≤ j → b ≤ l → grid binary32 (j + l) units_of_one ≤ k → k ≤ units_of_one
    → Within k (sum binary32 s a t b units_of_one)
unfolding sum
sum_within s t a b j l k A B g K =
    either (beq s t) (part s (a + b) (omega arith)) (either (ltb a b) (part t (b - a) (omega arith)) (part (s && ltb b a) (a - b) (omega arith)))
  where
    part : (r : Bool) (n : ℕ) → n ≤ j + l → Within k (round binary32 r n units_of_one)
    part r n h =
        lands_within (round binary32 r n units_of_one) r n units_of_one (j + l) units_of_one k refl (pow_pos 149) (pow_pos 149)
        (mul-le-mul_right units_of_one h) g K

    either : (r : Bool) {x y : Float} → Within k x → Within k y → Within k (cond r x y)
    either true v w = v
    either false v w = w

add_within : (x y : Float) (j l k : ℕ) → Within j x → Within l y → grid binary32 (j + l) units_of_one ≤ k → k ≤ units_of_one → Within k (add binary32 x y)
add_within x y j l k v w g K =
    let x-value = signed x v.units units_of_one v.is in
    let y-value = signed y w.units units_of_one w.is in
    subst (λ (z : Float). Within k z)
    (sym (add_is binary32 x y (sign x) (sign y) v.units w.units units_of_one (pow_pos 149) x-value y-value))
    (sum_within (sign x) (sign y) v.units w.units j l k v.most w.most g K)

-- ---- a channel's number: an eighth, times 8 at most, and a fifth
loud_value : (v : ℕ) → v ≤ 7 → HasValue (add binary32 (of_int binary32 (pos v)) f1) false (v + 1) 1
loud_value v h =
    subst (λ (z : Float). HasValue z false (v + 1) 1)
    (sym (add_is binary32 (of_int binary32 (pos v)) f1 false false v 1 1 (lit< tt) (int_value v (le_trans h (lit≤ tt))) f1_value ∙ plus_sum binary32 v 1 1))
    (round_whole binary32 false (v + 1) (omega arith))

eighth : grid binary32 (units_of_one * 1) (units_of_one * 8) ≤ 2 ^ 146
unfolding size
eighth = lit≤ tt

eight : grid binary32 (2 ^ 146 * 8) (units_of_one * 1) ≤ units_of_one
unfolding size
eight = lit≤ tt

to_fifth : grid binary32 (units_of_one * 1) (units_of_one * 5) ≤ fifth
unfolding size
to_fifth = lit≤ tt

side_within : (x : Float) (v : ℕ) (on : Bool) → v ≤ 7 → Within units_of_one x → Within fifth (side_of x v on)
unfolding side_of
side_within x v on h w =
    div_within (cond on (mul binary32 (div binary32 x f8) loud) f0) f5 units_of_one 5 fifth f5_value (lit< tt) (lit< tt) (chosen on) to_fifth (lit≤ tt)
  where
    loud : Float
    loud = add binary32 (of_int binary32 (pos v)) f1

    chosen : (on : Bool) → Within units_of_one (cond on (mul binary32 (div binary32 x f8) loud) f0)
    chosen true =
        let most : v + 1 ≤ 8 = omega arith in
        let at-most-eight = grid_le binary32 (2 ^ 146 * (v + 1)) (2 ^ 146 * 8) (units_of_one * 1) (pow_pos 149) (mul-le-mul_left (2 ^ 146) most) in
        mul_within (div binary32 x f8) loud (2 ^ 146) (v + 1) units_of_one (loud_value v h)
        (div_within x f8 units_of_one 8 (2 ^ 146) f8_value (lit< tt) (lit< tt) w eighth (lit≤ tt))
        (le_trans at-most-eight eight) (le_refl units_of_one)
    chosen false = silent

-- ---- a sum of four: 0.2 + 0.2 is within 0.5, with 0.2 more within 0.75, and with 0.2 more within 1
two-of : grid binary32 (fifth + fifth) units_of_one ≤ 2 ^ 148
unfolding size
two-of = lit≤ tt

three_of : grid binary32 (2 ^ 148 + fifth) units_of_one ≤ 3 * 2 ^ 147
unfolding size
three_of = lit≤ tt

four_of : grid binary32 (3 * 2 ^ 147 + fifth) units_of_one ≤ units_of_one
unfolding size
four_of = lit≤ tt

sum_within_one : (a b c d : Float) → Within fifth a → Within fifth b → Within fifth c → Within fifth d → Within units_of_one (sum4 a b c d)
sum_within_one a b c d p q r s =
    add_within (add binary32 (add binary32 a b) c) d (3 * 2 ^ 147) fifth units_of_one
    (add_within (add binary32 a b) c (2 ^ 148) fifth (3 * 2 ^ 147) (add_within a b fifth fifth (2 ^ 148) p q two-of (lit≤ tt)) r three_of (lit≤ tt))
    s four_of (le_refl units_of_one)

-- ---- a frame's numbers
pub record SidesWithin (k : ℕ) (s : Sides) : Type 0 where
  pub right : Within k s.right
  pub left : Within k s.left

pub voiced_within : (d : Converter) (o : ℕ) (muted : Bool) (control selection channel : ℕ) → o ≤ 15 → Held d
    → SidesWithin fifth (voiced d o muted control selection channel).sides
unfolding voiced sides_of
voiced_within d o muted control selection channel l h =
    let out = stepped_within d o muted l h in
    record { right = side_within _ (control % 8) _ (omega arith) out; left = side_within _ (control / 16 % 8) _ (omega arith) out }

pub mixed_within : (p q w n : Sides) → SidesWithin fifth p → SidesWithin fifth q → SidesWithin fifth w → SidesWithin fifth n
    → SidesWithin units_of_one (mixed p q w n).all
unfolding mixed
mixed_within p q w n a b c d =
    record {
      right = sum_within_one _ _ _ _ a.right b.right c.right d.right;
      left = sum_within_one _ _ _ _ a.left b.left c.left d.left;
    }

within_number : (k : ℕ) (x : Float) → Within k x → Number x
unfolding is_nan
within_number k nan w = absurd w.is
within_number k (inf s) w = tt
within_number k (fin s m e) w = tt

pub within_numbers : (k : ℕ) (s : Sides) → SidesWithin k s → Numbers s
within_numbers k s w = record { right = within_number k s.right w.right; left = within_number k s.left w.left }
