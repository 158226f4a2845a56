-- A capacitor stays from 0 to 1, and what a converter gives out within 1: rounding keeps the order, so a step's results lie between those at the ends,
-- capacitor 0 and 1, and these are computed for the sixteen outputs. Assumes nothing.
use mathlib.Core.Path.{◌≡◌, refl, sym, ap, ◌∙◌, subst}
use mathlib.Core.Logic.{◌⊎◌, inl, inr}
use mathlib.Core.Bool.{Bool, true, false, not, ◌&&◌}
use Prim.Native.Nat.{ℕ, zero, suc, ◌+◌, ◌-◌, ◌*◌, ◌^◌, ◌≤◌, ◌<◌, zero-le}
use native.Mathlib.Nat.{le_trans, lt_of_le_of_lt, not-le_of_lt, le_of_suc-le-suc, eq-or-lt_of_le, sub-le, sub-zero, zero-add, mul-one, mul-le-mul_right}
use native.Mathlib.Omega.{arith}
use lib.Dec.{T, leb, ltb, eqb, eqb→eq, leb→le, ltb→lt, nltb→le, lit<, lit≤}
use lib.Pow.{pow_pos}
use lib.IntN.{pos}
use lib.Ieee.{Float, nan, inf, fin, binary32, size, unlike, round, sum, sub, mul, of_int, of_bits}
use lib.Ieee.Digits.{Equals}
use lib.Ieee.Fits.{and_l, and_r, sub-fits}
use lib.Ieee.Bits.{of_bits-fits}
use lib.Ieee.Exact.{HasValue}
use lib.Ieee.Back.{round_whole}
use lib.Ieee.Scale.{grid, overflow}
use Rattle.frame.specs.Converter.{f0, f15, keep, in_of, out_of, charged, fresh, stepped}
use Rattle.frame.specs.Held.{units_of_one, Charge, Held, Drained, Within}
use Rattle.frame.specs.declared.converter.Converter.{Converter}
use Rattle.ground.proofs.Rounded.{grid_le, rounded, plus_sum, up_sum, down_sum, sub_is, mul_is, div_is}

-- ---- the constants
keep_value : HasValue keep false 16710107 (2 ^ 24)
unfolding of_bits
keep_value = (refl, refl)

pub f0_value : HasValue f0 false 0 units_of_one
unfolding of_bits
f0_value = (refl, refl)

f15_value : HasValue f15 false 15 1
unfolding of_bits
f15_value = (refl, refl)

-- ---- whole numbers of 2 ^ -149, rounded to f32: a units; g units times the f32 nearest to 0.996; an output / 15
snap : ℕ → ℕ
snap a = grid binary32 a units_of_one

scaled : ℕ → ℕ
scaled g = grid binary32 (g * 16710107) (units_of_one * 2 ^ 24)

input : ℕ → ℕ
input o = grid binary32 o 15

snap_le : (a b : ℕ) → a ≤ b → snap a ≤ snap b
unfolding snap
snap_le a b h = grid_le binary32 a b units_of_one (pow_pos 149) h

scaled_le : (a b : ℕ) → a ≤ b → scaled a ≤ scaled b
unfolding scaled
scaled_le a b h = grid_le binary32 (a * 16710107) (b * 16710107) (units_of_one * 2 ^ 24) (pow_pos 173) (mul-le-mul_right 16710107 h)

-- ---- what is computed, for each output
abbrev all_below : ℕ → (ℕ → Bool) → Bool
all_below zero p = true
all_below (suc n) p = p n && all_below n p

below : (n : ℕ) (p : ℕ → Bool) → T (all_below n p) → (k : ℕ) → k < n → T (p k)
below zero p t k h = absurd (not-le_of_lt h zero-le)
below (suc n) p t k h = elim (eq-or-lt_of_le (le_of_suc-le-suc h)) [
  | inl e ↦ subst (λ (z : ℕ). T (p z)) (sym e) (and_l (p n) (all_below n p) t)
  | inr l ↦ below n p (and_r (p n) (all_below n p) t) k l
]

each : (p q : ℕ → ℕ) → T (all_below 16 (λ (o : ℕ). leb (p o) (q o))) → (o : ℕ) → o ≤ 15 → p o ≤ q o
each p q t o h = leb→le (p o) (q o) (below 16 (λ (o : ℕ). leb (p o) (q o)) t o (lt_of_le_of_lt h (lit< tt)))

whole : (o : ℕ) → o ≤ 15 → input o ≤ units_of_one
unfolding input size
whole = each input (λ o. units_of_one) tt

-- at capacitor 0: what goes out, and what is left of it
rises : (o : ℕ) → o ≤ 15 → snap (input o) ≤ units_of_one
unfolding input snap size
rises = each (λ o. snap (input o)) (λ o. units_of_one) tt

loses : (o : ℕ) → o ≤ 15 → scaled (snap (input o)) ≤ input o
unfolding input snap scaled size
loses = each (λ o. scaled (snap (input o))) input tt

-- at capacitor 1
falls : (o : ℕ) → o ≤ 15 → snap (units_of_one - input o) ≤ units_of_one
unfolding input snap size
falls = each (λ o. snap (units_of_one - input o)) (λ o. units_of_one) tt

gains : (o : ℕ) → o ≤ 15 → scaled (snap (units_of_one - input o)) ≤ units_of_one
unfolding input snap scaled size
gains = each (λ o. scaled (snap (units_of_one - input o))) (λ o. units_of_one) tt

tops : (o : ℕ) → o ≤ 15 → snap (input o + scaled (snap (units_of_one - input o))) ≤ units_of_one
unfolding input snap scaled size
tops = each (λ o. snap (input o + scaled (snap (units_of_one - input o)))) (λ o. units_of_one) tt

-- ---- a float that a fraction was rounded to, by its units
under : (a : ℕ) → a ≤ units_of_one → a < overflow binary32
under a h = lt_of_le_of_lt h (lit< tt)

pub lands : (x : Float) (s : Bool) (a c : ℕ) → x ≡ round binary32 s a c → grid binary32 a c ≤ units_of_one → HasValue x s (grid binary32 a c) units_of_one
lands x s a c e h = subst (λ (z : Float). HasValue z s (grid binary32 a c) units_of_one) (sym e) (rounded binary32 s a c (under (grid binary32 a c) h))

snapped : (x : Float) (s : Bool) (a : ℕ) → x ≡ round binary32 s a units_of_one → snap a ≤ units_of_one → HasValue x s (snap a) units_of_one
unfolding snap
snapped x s a e h = lands x s a units_of_one e h

kept : (x : Float) (s : Bool) (g : ℕ) → HasValue x s g units_of_one → scaled g ≤ units_of_one
    → HasValue (mul binary32 x keep) (unlike s false) (scaled g) units_of_one
unfolding scaled
kept x s g v h =
    lands (mul binary32 x keep) (unlike s false) (g * 16710107) (units_of_one * 2 ^ 24)
    (mul_is binary32 x keep s false g units_of_one 16710107 (2 ^ 24) (pow_pos 149) (pow_pos 24) v keep_value)
    h

-- a small whole number as an f32
pub int_value : (n : ℕ) → n ≤ 15 → HasValue (of_int binary32 (pos n)) false n 1
unfolding of_int
int_value n h = round_whole binary32 false n (le_trans h (lit≤ tt))

input_value : (o : ℕ) → o ≤ 15 → HasValue (in_of o) false (input o) units_of_one
unfolding input
input_value o h =
    lands (in_of o) false o 15
    (div_is binary32 (of_int binary32 (pos o)) f15 false false o 1 15 1 (lit< tt) (lit< tt) (int_value o h) f15_value
    ∙ ap (λ (z : ℕ). round binary32 false z 15) (mul-one o))
    (whole o h)

-- ---- sizes alone
pub sign : Float → Bool
sign nan = false
sign (inf s) = s
sign (fin s m e) = s

pub signed : (x : Float) (a c : ℕ) → Equals x a c → HasValue x (sign x) a c
unfolding sign
signed nan a c p = absurd p
signed (inf s) a c p = absurd p
signed (fin s m e) a c p = (refl, p)

size_of : (x : Float) (s : Bool) (a c : ℕ) → HasValue x s a c → Equals x a c
size_of nan s a c p = p
size_of (inf t) s a c p = p
size_of (fin t m e) s a c p = p.1

pub sized : (k : ℕ) (x : Float) (s : Bool) (a : ℕ) → HasValue x s a units_of_one → a ≤ k → Within k x
sized k x s a v h = record { units = a; is = size_of x s a units_of_one v; most = h }

pub silent : Within units_of_one f0
silent = sized units_of_one f0 false 0 f0_value zero-le

either : (a b : ℕ) → a < b ⊎ b ≤ a
either a b = go (ltb a b) (ltb→lt a b) (nltb→le a b)
  where
    go : (t : Bool) → (T t → a < b) → (T (not t) → b ≤ a) → a < b ⊎ b ≤ a
    go true h k = inl (h tt)
    go false h k = inr (k tt)

fewer : (a b c : ℕ) → a ≤ b → a - c ≤ b - c
fewer a b c h = omega arith

-- ---- one step: k is the capacitor, o the output
module _ (c : Float) (C : Charge c) (o : ℕ) (O : o ≤ 15) where
  up_most : snap (input o - C.units) ≤ snap (input o)
  up_most = snap_le (input o - C.units) (input o) (sub-le (input o) C.units)

  down_most : snap (C.units - input o) ≤ snap (units_of_one - input o)
  down_most = snap_le (C.units - input o) (units_of_one - input o) (fewer C.units units_of_one (input o) C.most)

  -- the input less a float of n units
  less : (y : Float) (s : Bool) (n : ℕ) → HasValue y s n units_of_one → sub binary32 (in_of o) y ≡ sum binary32 false (input o) (not s) n units_of_one
  less y s n v = sub_is binary32 (in_of o) y false s (input o) n units_of_one (pow_pos 149) (input_value o O) v

  out_up : C.units ≤ input o → HasValue (out_of c o) false (snap (input o - C.units)) units_of_one
  out_up h =
      snapped (out_of c o) false (input o - C.units)
      (less c false C.units C.is ∙ up_sum binary32 (input o) C.units units_of_one h)
      (le_trans up_most (rises o O))

  out_down : input o < C.units → HasValue (out_of c o) true (snap (C.units - input o)) units_of_one
  out_down h =
      snapped (out_of c o) true (C.units - input o)
      (less c false C.units C.is ∙ down_sum binary32 (input o) C.units units_of_one h)
      (le_trans down_most (falls o O))

  out_within : Within units_of_one (out_of c o)
  out_within = elim (either (input o) C.units) [
    | inl h ↦ sized units_of_one (out_of c o) true (snap (C.units - input o)) (out_down h) (le_trans down_most (falls o O))
    | inr h ↦ sized units_of_one (out_of c o) false (snap (input o - C.units)) (out_up h) (le_trans up_most (rises o O))
  ]

  next_up : C.units ≤ input o → Charge (charged c o)
  next_up h =
      let g = snap (input o - C.units) in
      let p = scaled g in
      let P : p ≤ input o = le_trans (scaled_le g (snap (input o)) up_most) (loses o O) in
      let most : snap (input o - p) ≤ units_of_one = le_trans (snap_le (input o - p) (input o) (sub-le (input o) p)) (rises o O) in
      let W : HasValue (mul binary32 (out_of c o) keep) false p units_of_one = kept (out_of c o) false g (out_up h) (le_trans P (whole o O)) in
      record {
        units = snap (input o - p);
        is = snapped (charged c o) false (input o - p) (less (mul binary32 (out_of c o) keep) false p W ∙ up_sum binary32 (input o) p units_of_one P) most;
        most = most;
      }

  next_down : input o < C.units → Charge (charged c o)
  next_down h =
      let g = snap (C.units - input o) in
      let p = scaled g in
      let P : p ≤ scaled (snap (units_of_one - input o)) = scaled_le g (snap (units_of_one - input o)) down_most in
      let most : snap (input o + p) ≤ units_of_one =
      le_trans (snap_le (input o + p) (input o + scaled (snap (units_of_one - input o))) (omega arith)) (tops o O) in
      let W : HasValue (mul binary32 (out_of c o) keep) true p units_of_one = kept (out_of c o) true g (out_down h) (le_trans P (gains o O)) in
      record {
        units = snap (input o + p);
        is = snapped (charged c o) false (input o + p) (less (mul binary32 (out_of c o) keep) true p W ∙ plus_sum binary32 (input o) p units_of_one) most;
        most = most;
      }

  next : Charge (charged c o)
  next = elim (either (input o) C.units) [ inl h ↦ next_down h | inr h ↦ next_up h ]

-- ---- a converter
pub fresh_held : Held fresh
unfolding of_bits
fresh_held = record { single = of_bits-fits binary32 0; charge = record { units = 0; is = f0_value; most = zero-le } }

pub stepped_held : (d : Converter) (o : ℕ) (muted : Bool) → o ≤ 15 → Held d → Held (stepped d o muted).converter
unfolding stepped
stepped_held d o true h C = C
stepped_held d o false h C =
    record {
      single = sub-fits binary32 (in_of o) (mul binary32 (out_of d.capacitor o) keep);
      charge = next d.capacitor C.charge o h;
    }

pub stepped_within : (d : Converter) (o : ℕ) (muted : Bool) → o ≤ 15 → Held d → Within units_of_one (stepped d o muted).dac_out
unfolding stepped
stepped_within d o true h C = silent
stepped_within d o false h C = out_within d.capacitor C.charge o h

-- ---- output 0 drains a capacitor, but never empties it: one unit stays one unit, and so do up to 124, since 0.004 times them is less than half a unit
no_input : input 0 ≡ 0
unfolding input size
no_input = refl

one_snapped : 1 ≤ snap 1
unfolding snap size
one_snapped = lit≤ tt

one_scaled : 1 ≤ scaled 1
unfolding scaled size
one_scaled = lit≤ tt

some_left : (k : ℕ) → 0 < k → 0 < snap (scaled (snap k))
some_left k h =
    let g : 1 ≤ snap k = le_trans one_snapped (snap_le 1 k h) in
    let p : 1 ≤ scaled (snap k) = le_trans one_scaled (scaled_le 1 (snap k) g) in
    le_trans one_snapped (snap_le 1 (scaled (snap k)) p)

few_stay : (k : ℕ) → k ≤ 124 → snap (scaled (snap k)) ≡ k
unfolding snap scaled size
few_stay k h =
    eqb→eq (snap (scaled (snap k))) k (below 125 (λ (n : ℕ). eqb (snap (scaled (snap n))) n) tt k (lt_of_le_of_lt h (lit< tt)))

pub drained : (d : Converter) (C : Charge d.capacitor) → 0 < C.units → Drained C.units (stepped d 0 false).converter.capacitor
unfolding stepped next_down
drained d C h =
    let k = C.units in
    let n = next_down d.capacitor C 0 zero-le (rw no_input h) in
    let is : n.units ≡ snap (scaled (snap k)) = rw (no_input, sub-zero k) (ap (λ (x : ℕ). snap x) (zero-add (scaled (snap k)))) in
    record {
      units = n.units;
      is = n.is;
      some = rw is (some_left k h);
      same = λ (l : k ≤ 124). is ∙ few_stay k l;
    }
