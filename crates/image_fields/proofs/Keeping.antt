-- A sample counter is `is_kept` exactly if it is k units of 2 ^ -u for a k below M; and how its bit pattern shows it, by its field and its digits.
-- Assumes nothing.
use mathlib.Core.Path.{◌≡◌, refl, sym, ap, ap₂, ◌∙◌, subst}
use mathlib.Core.Bool.{Bool, true, false, not, ◌&&◌, cond, true≢false}
use Prim.Native.Nat.{ℕ, zero, suc, ◌+◌, ◌-◌, ◌*◌, ◌/◌, ◌%◌, ◌^◌, ◌≤◌, ◌<◌}
use native.Mathlib.Nat.{le_trans, le_of_eq, lt_of_lt_of_le, mul_assoc, mul_comm, mul_right_comm, mul-one, one-mul, mul-pos, add-zero}
use native.Mathlib.Nat.{div-add-mod', mul-mod_left, mod-eq_of_lt, div-eq_of_lt, eq_of_mul-eq-mul_right, le-div_iff_mul-le, mul-le-mul}
use native.Mathlib.Omega.{arith}
use lib.Dec.{T, leb, ltb, eqb, eqb→eq, ltb→lt, lt→ltb, nltb→le, nleb→lt, not_T, lit<}
use lib.Pow.{pow-add, pow_pos, pow_mono, shl_lt}
use lib.Ieee.{Float, nan, inf, fin, binary64, up, down, odd, of_fields, of_bits, fits}
use lib.Ieee.Fits.{down_pos, and_l, and_r, and_i, eq→eqb}
use lib.Ieee.Exact.{HasValue, odd_sign}
use lib.Ieee.Nearest.{div_same}
use lib.Ieee.Bits.{is_false, cond_no}
use borrow.Author.Tests.{lt-leb, le-ltb, lt-ltb}
use Rattle.ground.specs.Units.{units_of}
use Rattle.ground.proofs.Units.{exact}
use Rattle.ground.proofs.Same.{units_unique}
use Rattle.clocks.specs.Counter.{Kept}
use Rattle.image_fields.specs.Floats.{Measure, is_kept}

-- two tests that hold together are the same
both : (p q : Bool) → (T p → T q) → (T q → T p) → p ≡ q
both true true f g = refl
both true false f g = absurd (f tt)
both false true f g = absurd (g tt)
both false false f g = refl

-- ---- of two equal fractions one is whole where the other is
whole_too : (a b c d : ℕ) → 0 < b → a * d ≡ c * b → a % b ≡ 0 → c % d ≡ 0
whole_too a b c d B e z =
    let q = a / b in
    let h : q * b ≡ a = sym (add-zero (q * b)) ∙ ap (λ (x : ℕ). q * b + x) (sym z) ∙ div-add-mod' a b in
    let g : c ≡ q * d = eq_of_mul-eq-mul_right b B c (q * d) (sym e ∙ ap (λ (x : ℕ). x * d) (sym h) ∙ mul_right_comm q b d) in
    ap (λ (x : ℕ). x % d) g ∙ mul-mod_left q d

whole_same : (a b c d : ℕ) → 0 < b → 0 < d → a * d ≡ c * b → eqb (a % b) 0 ≡ eqb (c % d) 0
whole_same a b c d B D e =
    both (eqb (a % b) 0) (eqb (c % d) 0) (λ t. eq→eqb (whole_too a b c d B e (eqb→eq (a % b) 0 t)))
    (λ t. eq→eqb (whole_too c d a b D (sym e) (eqb→eq (c % d) 0 t)))

-- from one fraction to another of the same size
rescale : (x : Float) (w l a c : ℕ) → 0 < l → a * l ≡ w * c → HasValue x false w l → HasValue x false a c
rescale nan w l a c L h v = absurd v
rescale (inf s) w l a c L h v = absurd v
rescale (fin s m e) w l a c L h v =
    let turned = mul_right_comm (m * up e) c l ∙ ap (λ (x : ℕ). x * c) v.1 ∙ mul_right_comm w (down e) c in
    (v.0, eq_of_mul-eq-mul_right l L (m * up e * c) (a * down e) (turned ∙ ap (λ (x : ℕ). x * down e) (sym h) ∙ mul_right_comm a l (down e)))

and_true : (b : Bool) → (b && true) ≡ b
and_true true = refl
and_true false = refl

and_false : (b : Bool) → (b && false) ≡ false
and_false true = refl
and_false false = refl

-- a number at or above 0: its field is below the one that marks an infinity
plain : (b : ℕ) → b < 2047 * 2 ^ 52 → of_bits binary64 b ≡ of_fields binary64 false (b / 2 ^ 52) (b % 2 ^ 52)
unfolding of_bits
plain b h =
    let l : b < 2 ^ 63 = omega arith in
    rw (lt-leb (2 ^ 63) b l, mod-eq_of_lt l)

-- the digits with their leading one
abbrev sig : ℕ → ℕ
sig t = 2 ^ 52 + t

field_value : (x t : ℕ) → x < 2046 → HasValue (of_fields binary64 false (suc x) t) false (sig t * 2 ^ x) (2 ^ 1074)
unfolding of_fields
field_value x t h =
    rw (cond_no (eqb (suc x) 2047) _ (odd 53 false (2 ^ 52 + t) x 1074) (not_T (eqb (suc x) 2047) (λ e. never x h (eqb→eq (suc x) 2047 e))))
    (odd_sign 53 false (2 ^ 52 + t) x 1074)
  where
    never : (x : ℕ) → x < 2046 → suc x ≡ 2047 → ⊥
    never x h e = omega arith

digits_lt : (b : ℕ) → b % 2 ^ 52 < 2 ^ 52
digits_lt b = omega arith

at_field : (b x : ℕ) → b / 2 ^ 52 ≡ x → x < 2047 → of_bits binary64 b ≡ of_fields binary64 false x (b % 2 ^ 52)
at_field b x e h = plain b (omega arith) ∙ ap (λ (y : ℕ). of_fields binary64 false y (b % 2 ^ 52)) e

pred_is : (x : ℕ) → 0 < x → x ≡ suc (x - 1)
pred_is x h = omega arith

reach : {u : ℕ} → u ≤ 1000 → u ≤ 1074
reach h = omega arith

module _ (u M : ℕ) where
  -- the test, on any fraction a / (c * 2 ^ u) that x equals
  abbrev pub kept_as : ℕ → ℕ → Bool
  kept_as a c = eqb (a % c) 0 && ltb (a / c) M

  kept_at : (x : Float) (a c : ℕ) → 0 < c → HasValue x false a (c * 2 ^ u) → is_kept u M x ≡ kept_as a c
  unfolding is_kept
  kept_at nan a c C v = absurd v
  kept_at (inf s) a c C v = absurd v
  kept_at (fin true m e) a c C v = absurd (true≢false v.0)
  kept_at (fin false m e) a c C v =
      let n = m * up e * 2 ^ u in
      let h : n * c ≡ a * down e = mul_assoc (m * up e) (2 ^ u) c ∙ ap (λ (x : ℕ). m * up e * x) (mul_comm (2 ^ u) c) ∙ v.1 in
      ap₂ (λ (p : Bool) (q : ℕ). p && ltb q M) (whole_same n (down e) a c (down_pos e) C h) (div_same n (down e) a c (down_pos e) C h)

  -- ---- exactly the units below M
  pub units_kept : Measure u M → (x : Float) → Kept u M x → T (is_kept u M x)
  units_kept m x h =
      let k = h.units in
      let z : k % 1 ≡ 0 = omega arith in
      let l : k / 1 < M = by_one k M h.below in
      rw (h.is, kept_at (units_of binary64 u k) k 1 (lit< tt) (one (exact binary64 u k (reach m.deep) (lt_of_lt_of_le h.below m.few))))
      (and_i (eqb (k % 1) 0) (ltb (k / 1) M) (eq→eqb z) (lt→ltb (k / 1) M l))
    where
      by_one : (k M : ℕ) → k < M → k / 1 < M
      by_one k M h = omega arith

      one : HasValue (units_of binary64 u h.units) false h.units (2 ^ u) → HasValue (units_of binary64 u h.units) false h.units (1 * 2 ^ u)
      one v = rw (one-mul (2 ^ u)) v

  pub kept_units : Measure u M → (x : Float) → T (fits binary64 x) → T (is_kept u M x) → Kept u M x
  unfolding is_kept
  kept_units r nan p t = absurd t
  kept_units r (inf s) p t = absurd t
  kept_units r (fin true m e) p t = absurd t
  kept_units r (fin false m e) p t =
      let n = m * up e * 2 ^ u in
      let k = n / down e in
      let z : n % down e ≡ 0 = eqb→eq (n % down e) 0 (and_l (eqb (n % down e) 0) (ltb k M) t) in
      let l : k < M = ltb→lt k M (and_r (eqb (n % down e) 0) (ltb k M) t) in
      let h : n ≡ k * down e = sym (div-add-mod' n (down e)) ∙ ap (λ (x : ℕ). k * down e + x) z ∙ add-zero (k * down e) in
      record { units = k; below = l; is = units_unique binary64 u k (fin false m e) (reach r.deep) (lt_of_lt_of_le l r.few) p (refl, h) }

  -- ---- negative, infinite or no number
  either : (b : Bool) (x y : Float) → is_kept u M x ≡ false → is_kept u M y ≡ false → is_kept u M (cond b x y) ≡ false
  either true x y p q = p
  either false x y p q = q

  odd_negative : (d q k l : ℕ) → is_kept u M (odd d true q k l) ≡ false
  unfolding is_kept odd
  odd_negative d zero k l = refl
  odd_negative d (suc q) k l = refl

  no_number : (s : Bool) (t : ℕ) → is_kept u M (cond (eqb t 0) (inf s) nan) ≡ false
  unfolding is_kept
  no_number s t = either (eqb t 0) (inf s) nan refl refl

  negative : (x t : ℕ) → is_kept u M (of_fields binary64 true x t) ≡ false
  unfolding of_fields
  negative zero t = odd_negative 53 t 0 1074
  negative (suc x) t =
      either (eqb (suc x) 2047) (cond (eqb t 0) (inf true) nan) (odd 53 true (2 ^ 52 + t) x 1074) (no_number true t)
      (odd_negative 53 (2 ^ 52 + t) x 1074)

  beyond : (b : ℕ) → 2047 * 2 ^ 52 ≤ b → is_kept u M (of_bits binary64 b) ≡ false
  unfolding of_bits
  beyond b h = go (leb (2 ^ 63) b) (nleb→lt (2 ^ 63) b)
    where
      at_top : (x t : ℕ) → x ≡ 2047 → is_kept u M (of_fields binary64 false x t) ≡ false
      at_top x t e = rw e (unfold of_fields in no_number false t)

      go : (s : Bool) → (T (not s) → b < 2 ^ 63) → is_kept u M (of_fields binary64 s (b % 2 ^ 63 / 2 ^ 52) (b % 2 ^ 52)) ≡ false
      go true l = negative (b % 2 ^ 63 / 2 ^ 52) (b % 2 ^ 52)
      go false l =
          let g : b < 2 ^ 63 = l tt in
          at_top (b % 2 ^ 63 / 2 ^ 52) (b % 2 ^ 52) (omega arith)

-- a unit of 2 ^ -u is 2 ^ v of the smallest f64 above 0
record Deep (u v M : ℕ) : Type 0 where
  sum : v + u ≡ 1074
  wide : 53 ≤ v
  some : 0 < M
  few : M ≤ 2 ^ 53

module _ (u v M : ℕ) (D : Deep u v M) where
  -- the smallest f64s in 1.0
  smallest : 2 ^ 1074 ≡ 2 ^ v * 2 ^ u
  smallest = ap (λ (z : ℕ). 2 ^ z) (sym D.sum) ∙ pow-add 2 v u

  value_at : (x : Float) (a : ℕ) → HasValue x false a (2 ^ 1074) → is_kept u M x ≡ kept_as u M a (2 ^ v)
  value_at x a h = kept_at u M x a (2 ^ v) (pow_pos v) (subst (λ (z : ℕ). HasValue x false a z) smallest h)

  field_zero : (t : ℕ) → t < 2 ^ 52 → is_kept u M (of_fields binary64 false 0 t) ≡ eqb t 0
  unfolding of_fields
  field_zero t h =
      let low : t < 2 ^ v = lt_of_lt_of_le h (pow_mono {j = v} (under D.wide)) in
      value_at (odd 53 false t 0 1074) t (rescale (odd 53 false t 0 1074) (t * 2 ^ 0) (2 ^ 1074) t (2 ^ 1074) (pow_pos 1074)
      (ap (λ (x : ℕ). x * 2 ^ 1074) (sym (mul-one t))) (odd_sign 53 false t 0 1074))
      ∙ rw (mod-eq_of_lt low, div-eq_of_lt low, lt-ltb 0 M D.some) (and_true (eqb t 0))
    where
      under : 53 ≤ v → 52 ≤ v
      under h = omega arith

  -- too small: below one unit
  field_small : (x t : ℕ) → x + 53 ≤ v → t < 2 ^ 52 → is_kept u M (of_fields binary64 false (suc x) t) ≡ false
  field_small x t h T =
      let n = (2 ^ 52 + t) * 2 ^ x in
      let s : 2 ^ 52 + t < 2 ^ 53 = omega arith in
      let l : n < 2 ^ v = lt_of_lt_of_le (shl_lt 53 x s) (pow_mono {j = v} (turn h)) in
      let p : 0 < n = mul-pos {m = 2 ^ 52 + t} (omega arith) (pow_pos x) in
      value_at (of_fields binary64 false (suc x) t) n (field_value x t (short D.sum h))
      ∙ rw (mod-eq_of_lt l, is_false (eqb n 0) (not_T (eqb n 0) (λ e. nonzero n p (eqb→eq n 0 e))))
    where
      turn : x + 53 ≤ v → 53 + x ≤ v
      turn h = omega arith

      short : v + u ≡ 1074 → x + 53 ≤ v → x < 2046
      short e h = omega arith

      nonzero : (n : ℕ) → 0 < n → n ≡ 0 → ⊥
      nonzero n h e = omega arith

  -- in reach: s digits lie below the unit
  field_middle : (x t s : ℕ) → x + s ≡ v → is_kept u M (of_fields binary64 false (suc x) t) ≡ kept_as u M (sig t) (2 ^ s)
  field_middle x t s h =
      let apart = ap (λ (z : ℕ). 2 ^ z * 2 ^ u) (sym h) ∙ ap (λ (z : ℕ). z * 2 ^ u) (pow-add 2 x s) in
      let whole : 2 ^ 1074 ≡ 2 ^ x * (2 ^ s * 2 ^ u) = smallest ∙ apart ∙ mul_assoc (2 ^ x) (2 ^ s) (2 ^ u) in
      kept_at u M (of_fields binary64 false (suc x) t) (sig t) (2 ^ s) (pow_pos s)
      (rescale (of_fields binary64 false (suc x) t) (sig t * 2 ^ x) (2 ^ 1074) (sig t) (2 ^ s * 2 ^ u) (pow_pos 1074)
      (ap (λ (z : ℕ). sig t * z) whole ∙ sym (mul_assoc (sig t) (2 ^ x) (2 ^ s * 2 ^ u)))
      (field_value x t (short D.sum h)))
    where
      short : v + u ≡ 1074 → x + s ≡ v → x < 2046
      short e h = omega arith

  -- too large: 2 ^ 53 units or more
  field_large : (x t : ℕ) → v + 1 ≤ x → x < 2046 → is_kept u M (of_fields binary64 false (suc x) t) ≡ false
  field_large x t h l =
      let n = (2 ^ 52 + t) * 2 ^ x in
      let two : 2 ^ 53 * 2 ^ v ≡ 2 ^ 52 * 2 ^ (v + 1) = sym (pow-add 2 53 v) ∙ ap (λ (z : ℕ). 2 ^ z) (shift v) ∙ pow-add 2 52 (v + 1) in
      let more : 2 ^ 52 * 2 ^ (v + 1) ≤ n = mul-le-mul {n₁ = 2 ^ 52} {m₁ = 2 ^ (v + 1)} (omega arith) (pow_mono h) in
      let g : 2 ^ 53 ≤ n / 2 ^ v = (le-div_iff_mul-le (pow_pos v)).1 (le_trans (le_of_eq two) more) in
      let k : M ≤ n / 2 ^ v = le_trans D.few g in
      value_at (of_fields binary64 false (suc x) t) n (field_value x t l)
      ∙ rw (le-ltb (n / 2 ^ v) M k) (and_false (eqb (n % 2 ^ v) 0))
    where
      shift : (v : ℕ) → 53 + v ≡ 52 + (v + 1)
      shift v = omega arith

  -- ---- by the pattern: its field b / 2 ^ 52 and its digits b % 2 ^ 52
  by_zero : (b : ℕ) → b / 2 ^ 52 ≡ 0 → is_kept u M (of_bits binary64 b) ≡ eqb (b % 2 ^ 52) 0
  by_zero b e = ap (is_kept u M) (at_field b 0 e (lit< tt)) ∙ field_zero (b % 2 ^ 52) (digits_lt b)

  by_small : (b : ℕ) → 0 < b / 2 ^ 52 → b / 2 ^ 52 + 52 ≤ v → is_kept u M (of_bits binary64 b) ≡ false
  by_small b p h =
      let e : b / 2 ^ 52 < 2047 = low D.sum h in
      ap (is_kept u M) (at_field b (suc (b / 2 ^ 52 - 1)) (pred_is (b / 2 ^ 52) p) (omega arith))
      ∙ field_small (b / 2 ^ 52 - 1) (b % 2 ^ 52) (omega arith) (digits_lt b)
    where
      low : v + u ≡ 1074 → b / 2 ^ 52 + 52 ≤ v → b / 2 ^ 52 < 2047
      low e h = omega arith

  by_middle : (b s : ℕ) → 0 < b / 2 ^ 52 → b / 2 ^ 52 + s ≡ v + 1 → is_kept u M (of_bits binary64 b) ≡ kept_as u M (2 ^ 52 + b % 2 ^ 52) (2 ^ s)
  by_middle b s p h =
      let e : b / 2 ^ 52 < 2047 = low D.sum h in
      ap (is_kept u M) (at_field b (suc (b / 2 ^ 52 - 1)) (pred_is (b / 2 ^ 52) p) (omega arith))
      ∙ field_middle (b / 2 ^ 52 - 1) (b % 2 ^ 52) s (omega arith)
    where
      low : v + u ≡ 1074 → b / 2 ^ 52 + s ≡ v + 1 → b / 2 ^ 52 < 2047
      low e h = omega arith

  by_large : (b : ℕ) → v + 1 < b / 2 ^ 52 → is_kept u M (of_bits binary64 b) ≡ false
  by_large b h = go (ltb (b / 2 ^ 52) 2047) (ltb→lt (b / 2 ^ 52) 2047) (nltb→le (b / 2 ^ 52) 2047)
    where
      go : (s : Bool) → (T s → b / 2 ^ 52 < 2047) → (T (not s) → 2047 ≤ b / 2 ^ 52) → is_kept u M (of_bits binary64 b) ≡ false
      go true l g =
          let e : b / 2 ^ 52 < 2047 = l tt in
          ap (is_kept u M) (at_field b (suc (b / 2 ^ 52 - 1)) (pred_is (b / 2 ^ 52) (omega arith)) (omega arith))
          ∙ field_large (b / 2 ^ 52 - 1) (b % 2 ^ 52) (omega arith) (omega arith)
      go false l g =
          let e : 2047 ≤ b / 2 ^ 52 = g tt in
          beyond u M b (omega arith)

deep : (u M : ℕ) → Measure u M → Deep u (1074 - u) M
deep u M m = record { sum = sum m.deep; wide = wide m.deep; some = m.some; few = m.few }
  where
    sum : u ≤ 1000 → 1074 - u + u ≡ 1074
    sum h = omega arith

    wide : u ≤ 1000 → 53 ≤ 1074 - u
    wide h = omega arith

module _ (u M : ℕ) (m : Measure u M) where
  pub bits_zero : (b : ℕ) → b / 2 ^ 52 ≡ 0 → is_kept u M (of_bits binary64 b) ≡ eqb (b % 2 ^ 52) 0
  bits_zero = by_zero u (1074 - u) M (deep u M m)

  pub bits_small : (b : ℕ) → 0 < b / 2 ^ 52 → b / 2 ^ 52 < 1023 - u → is_kept u M (of_bits binary64 b) ≡ false
  bits_small b p h = by_small u (1074 - u) M (deep u M m) b p (low m.deep h)
    where
      low : u ≤ 1000 → b / 2 ^ 52 < 1023 - u → b / 2 ^ 52 + 52 ≤ 1074 - u
      low d h = omega arith

  pub bits_large : (b : ℕ) → 1075 - u < b / 2 ^ 52 → is_kept u M (of_bits binary64 b) ≡ false
  bits_large b h = by_large u (1074 - u) M (deep u M m) b (high m.deep h)
    where
      high : u ≤ 1000 → 1075 - u < b / 2 ^ 52 → 1074 - u + 1 < b / 2 ^ 52
      high d h = omega arith

  pub bits_middle : (b : ℕ) → 0 < b / 2 ^ 52 → b / 2 ^ 52 ≤ 1075 - u
      → is_kept u M (of_bits binary64 b) ≡ kept_as u M (2 ^ 52 + b % 2 ^ 52) (2 ^ (1075 - u - b / 2 ^ 52))
  bits_middle b p h = by_middle u (1074 - u) M (deep u M m) b (1075 - u - b / 2 ^ 52) p (sum m.deep h)
    where
      sum : u ≤ 1000 → b / 2 ^ 52 ≤ 1075 - u → b / 2 ^ 52 + (1075 - u - b / 2 ^ 52) ≡ 1074 - u + 1
      sum d h = omega arith
