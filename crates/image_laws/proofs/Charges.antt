-- A capacitor lies from 0 to 1 exactly if its pattern is at most that of 1.0, 3F800000: of floats without a sign the patterns have the order of the values.
-- Assumes nothing.
use mathlib.Core.Path.{◌≡◌, sym, ap, ◌∙◌, subst}
use mathlib.Core.Logic.{◌⊎◌, inl, inr}
use mathlib.Core.Bool.{Bool, true, false, not, cond, true≢false}
use Prim.Native.Nat.{ℕ, zero, suc, ◌+◌, ◌-◌, ◌*◌, ◌/◌, ◌%◌, ◌^◌, ◌≤◌, ◌<◌, zero-le}
use native.Mathlib.Nat.{le_refl, le_trans, le_of_eq, le_of_suc-le-suc, lt_of_le_of_lt, eq-or-lt_of_le}
use native.Mathlib.Nat.{zero-add, mul-one, mul-div_cancel, le-div_iff_mul-le, mul-le-mul, mod-lt, mod-eq_of_lt, div-add-mod'}
use native.Mathlib.Omega.{arith}
use lib.Dec.{T, leb, eqb, not_T, eqb→eq, lit≤}
use lib.Pow.{pow-add, pow_pos, pow_mono}
use lib.Ieee.{Float, nan, inf, fin, binary32, down, size, odd, top, of_fields, of_bits, to_bits}
use lib.Ieee.Digits.{size-lt, size-le, size_reaches}
use lib.Ieee.Bits.{cond_no}
use lib.Ieee.Fits.{kept-lt, down_pos}
use lib.Ieee.Exact.{HasValue, odd_sign}
use borrow.Author.Tests.{lt-leb}
use Rattle.frame.specs.Held.{units_of_one, Charge}

-- ---- from the value to the pattern: of n units it is `pattern n`, and that keeps the order
pattern : ℕ → ℕ
pattern n = (size n - 24) * 2 ^ 23 + n / 2 ^ (size n - 24)

fewer : (x y p : ℕ) → x ≤ y → x - p ≤ y - p
fewer x y p h = omega arith

in_use : (z : ℕ) → 0 < z - 24 → 23 + (z - 24) < z
in_use z h = omega arith

join : (j k q r : ℕ) → j < k → q < 2 ^ 24 → 2 ^ 23 ≤ r → j * 2 ^ 23 + q ≤ k * 2 ^ 23 + r
join j k q r h a b = omega arith

pattern_mono : (a b : ℕ) → a ≤ b → pattern a ≤ pattern b
unfolding pattern
pattern_mono a b h =
    let j = size a - 24 in
    let k = size b - 24 in
    elim (eq-or-lt_of_le (fewer (size a) (size b) 24 (size-le a (size b) (lt_of_le_of_lt h (size-lt b))))) [
      | inl e ↦ subst (λ (x : ℕ). x * 2 ^ 23 + a / 2 ^ x ≤ k * 2 ^ 23 + b / 2 ^ k) (sym e) (same k)
      | inr l ↦
          join j k (a / 2 ^ j) (b / 2 ^ k) l (kept-lt 24 a)
          ((le-div_iff_mul-le (pow_pos k)).1 (le_trans (le_of_eq (sym (pow-add 2 23 k)))
          (size_reaches b (23 + k) (in_use (size b) (lt_of_le_of_lt zero-le l)))))
    ]
  where
    add_left : (m x y : ℕ) → x ≤ y → m + x ≤ m + y
    add_left m x y p = omega arith

    same : (k : ℕ) → k * 2 ^ 23 + a / 2 ^ k ≤ k * 2 ^ 23 + b / 2 ^ k
    same k =
        let digits = (le-div_iff_mul-le (pow_pos k)).1 (le_trans ((le-div_iff_mul-le (pow_pos k)).0 (le_refl (a / 2 ^ k))) h) in
        add_left (k * 2 ^ 23) (a / 2 ^ k) (b / 2 ^ k) digits

pattern_of : (x : Float) (n : ℕ) → HasValue x false n units_of_one → to_bits binary32 x ≡ pattern n
unfolding to_bits pattern
pattern_of nan n p = absurd p
pattern_of (inf s) n p = absurd p
pattern_of (fin true m e) n p = absurd (true≢false p.0)
pattern_of (fin false m e) n p =
    ap (λ (z : ℕ). 0 + (size z - 24) * 2 ^ 23 + z / 2 ^ (size z - 24)) (ap (λ (z : ℕ). z / down e) p.1 ∙ mul-div_cancel n (down_pos e))
    ∙ ap (λ (z : ℕ). z + n / 2 ^ (size n - 24)) (zero-add ((size n - 24) * 2 ^ 23))

top_pattern : pattern units_of_one ≤ 0x3F80_0000
unfolding pattern size
top_pattern = lit≤ tt

pub charge_pattern : (c : Float) → Charge c → to_bits binary32 c ≤ 0x3F80_0000
charge_pattern c C = le_trans (le_of_eq (pattern_of c C.units C.is)) (le_trans (pattern_mono C.units units_of_one C.most) top_pattern)

-- ---- from the pattern to the value: a field x and digits t
fields : (x t : ℕ) → t < 2 ^ 23 → x * 2 ^ 23 + t ≤ 0x3F80_0000 → Charge (of_fields binary32 false x t)
unfolding of_fields
fields zero t d h =
    let small : t ≤ units_of_one = le_trans (omega arith) (lit≤ {m = 2 ^ 23} tt) in
    record { units = t * 2 ^ 0; is = odd_sign 24 false t 0 149; most = le_trans (le_of_eq (mul-one t)) small }
fields (suc x) t d h =
    let low : suc x ≤ 127 = omega arith in
    let no : T (not (eqb (suc x) 255)) = not_T (eqb (suc x) 255) (λ y. other x low (eqb→eq (suc x) 255 y)) in
    subst Charge (sym (cond_no (eqb (suc x) 255) (cond (eqb t 0) (inf false) nan) (odd 24 false (2 ^ 23 + t) x 149) no))
    (record { units = (2 ^ 23 + t) * 2 ^ x; is = odd_sign 24 false (2 ^ 23 + t) x 149; most = most (eq-or-lt_of_le (le_of_suc-le-suc low)) })
  where
    other : (x : ℕ) → suc x ≤ 127 → suc x ≡ 255 → ⊥
    other x a b = omega arith

    most : (x ≡ 126) ⊎ (x < 126) → (2 ^ 23 + t) * 2 ^ x ≤ units_of_one
    most (inl e) =
        let none : 2 ^ 23 + t ≤ 2 ^ 23 = omega arith in
        le_trans (mul-le-mul none (pow_mono {j = 126} (le_of_eq e))) (lit≤ tt)
    most (inr l) =
        let some : 2 ^ 23 + t ≤ 2 ^ 24 = omega arith in
        le_trans (mul-le-mul some (pow_mono (le_of_suc-le-suc l))) (lit≤ tt)

under : (b : ℕ) → b ≤ 0x3F80_0000 → b < 2 ^ 31
under b h = omega arith

pub pattern_charge : (b : ℕ) → b ≤ 0x3F80_0000 → Charge (of_bits binary32 b)
unfolding of_bits
pattern_charge b h =
    let plus : leb (top binary32) b ≡ false = lt-leb (top binary32) b (under b h) in
    let whole : b % top binary32 ≡ b = mod-eq_of_lt (under b h) in
    subst (λ (s : Bool). Charge (of_fields binary32 s (b % top binary32 / 2 ^ 23) (b % 2 ^ 23))) (sym plus)
    (subst (λ (z : ℕ). Charge (of_fields binary32 false (z / 2 ^ 23) (b % 2 ^ 23))) (sym whole)
    (fields (b / 2 ^ 23) (b % 2 ^ 23) (mod-lt b (pow_pos 23)) (le_trans (le_of_eq (div-add-mod' b (2 ^ 23))) h)))
