-- Demand 3 for any whole rate whose N leaves room for one more below 2 ^ 53 units (request 2026-08), with four rates as instances. Assumes nothing.
use mathlib.Core.Path.{◌≡◌, refl, sym, ap, ap₂, ◌∙◌, subst}
use mathlib.Core.List.{List}
use mathlib.Core.Bool.{false}
use Prim.Native.Nat.{ℕ, suc, ◌+◌, ◌-◌, ◌*◌, ◌/◌, ◌^◌, ◌≤◌, ◌<◌}
use native.Mathlib.Nat.{le_trans, le_of_eq, le_antisymm, lt_of_lt_of_le, lt_of_not-le, not-le_of_lt, le_of_suc-le-suc}
use native.Mathlib.Nat.{mul-one, one-mul, mul_comm, mul_assoc, mul_right_comm, mul-sub, add-mul, mul-pos}
use native.Mathlib.Nat.{mul-le-mul_right, mul-le-mul_left, mul-lt-mul_of_pos_right, le-div_iff_mul-le, div-lt_iff_lt-mul, div-one, mod-one}
use native.Mathlib.Omega.{arith}
use lib.Dec.{lit≤, lit<}
use lib.Pow.{pow-add, pow_pos, pow_mono, pow-lt}
use lib.IntN.{pos}
use lib.Ieee.{binary64, size, units, round, div, of_int}
use lib.Ieee.Back.{round_whole}
use lib.Ieee.Scale.{round_same}
use lib.Ieee.Digits.{size-lt, size-le, size_reaches}
use lib.Ieee.Fits.{round_is}
use lib.Ieee.Nearest.{closest, closest_same, closest_mono}
use lib.Ieee.Order.{drop}
use lib.Ieee.Positive.{first_pos}
use Rattle.ground.specs.Units.{units_of}
use Rattle.clocks.specs.Counter.{every_at}
use Rattle.clocks.specs.Rates.{Exponent, KAt, exponent_of}
use Rattle.clocks.specs.Calls.{Call, fresh, run, K, Conserved}
use Rattle.ground.proofs.Units.{div_at}
use Rattle.clocks.proofs.Working.{Room}
use Rattle.clocks.proofs.Conserved.{conserved_by}

-- ---- digits
size_is : (n z : ℕ) → 2 ^ z ≤ n → n < 2 ^ suc z → size n ≡ suc z
size_is n z a b = le_antisymm (size-le n (suc z) b) (lt_of_not-le (λ (g : size n ≤ z). not-le_of_lt (lt_of_lt_of_le (size-lt n) (pow_mono g)) a))

-- a fraction a / c of 2 ^ (53 + j) > a * 2 ^ 1074 / c ≥ 2 ^ (52 + j) units drops j digits
dropped : (j z : ℕ) → z ≡ suc (52 + j) → z - 53 ≡ j
dropped j z e = omega arith

round_at : (a c j : ℕ) → 0 < c → 2 ^ (52 + j) * c ≤ a * 2 ^ 1074 → a * 2 ^ 1074 < 2 ^ suc (52 + j) * c
    → round binary64 false a c ≡ units binary64 false (closest (a * 2 ^ 1074) (c * 2 ^ j)) j
round_at a c j C l h =
    let digits = size_is (a * 2 ^ 1074 / c) (52 + j) ((le-div_iff_mul-le C).1 l) ((div-lt_iff_lt-mul C).1 h) in
    let d : drop 53 (a * 2 ^ 1074) c ≡ j = dropped j (size (a * 2 ^ 1074 / c)) digits in
    round_is binary64 false a c
    ∙ ap (λ (z : ℕ). units binary64 false (closest (a * 2 ^ 1074) (c * 2 ^ z)) z) d

closest_one : (k : ℕ) → closest k 1 ≡ k
closest_one k = rw (div-one k, mod-one k)

-- ---- powers of two
pow_is : (m n : ℕ) → m ≡ n → 2 ^ m ≡ 2 ^ n
pow_is m n h = ap (λ (x : ℕ). 2 ^ x) h

-- 2 ^ n, by the sum of two exponents
split : (n a b : ℕ) → n ≡ a + b → 2 ^ n ≡ 2 ^ a * 2 ^ b
split n a b h = pow_is n (a + b) h ∙ pow-add 2 a b

-- and with a rate between them
split_by : (n a b r : ℕ) → n ≡ a + b → 2 ^ n * r ≡ 2 ^ a * r * 2 ^ b
split_by n a b r h = ap (λ (x : ℕ). x * r) (split n a b h) ∙ mul_right_comm (2 ^ a) (2 ^ b) r

-- 2 ^ a * 2 ^ b, by the sum of the exponents
join : (a b c d : ℕ) → a + b ≡ c + d → 2 ^ a * 2 ^ b ≡ 2 ^ c * 2 ^ d
join a b c d h = sym (pow-add 2 a b) ∙ pow_is (a + b) (c + d) h ∙ pow-add 2 c d

less : (a p r t : ℕ) → a + p ≤ t → r ≤ p → a ≤ t - r
less a p r t h l = omega arith

le_suc_of : {k : ℕ} → k ≤ 2 ^ 53 - 1 → k < 2 ^ 53
le_suc_of h = omega arith

lt_suc_of : {e : ℕ} → (21 ≤ e → ⊥) → e ≤ 20
lt_suc_of h = le_of_suc-le-suc (lt_of_not-le h)

module _ (rate e : ℕ) (w : Exponent rate e) where
  rate_pos : 0 < rate
  rate_pos = first_pos rate (2 ^ suc e) (le_trans (lit≤ tt) (le_trans w.hi (le_of_eq (mul_comm (2 ^ suc e) rate))))

  few : e ≤ 20
  few =
      let at_least : 2 ^ e ≤ 2 ^ e * rate = le_trans (le_of_eq (sym (mul-one (2 ^ e)))) (mul-le-mul_left (2 ^ e) rate_pos) in
      lt_suc_of (λ (g : 21 ≤ e). not-le_of_lt (lt_of_lt_of_le (pow-lt {i = 20} {j = e} g) at_least) w.lo)

  -- in units of 2 ^ -1074 the fraction 1048576 / rate has 1075 + e digits
  frac_lo : 2 ^ (52 + (1022 + e)) * rate ≤ 1048576 * 2 ^ 1074
  frac_lo =
      le_trans (le_of_eq (split_by (52 + (1022 + e)) e 1074 rate (omega (arith, few))))
      (mul-le-mul_right (2 ^ 1074) w.lo)

  frac_hi : 1048576 * 2 ^ 1074 < 2 ^ suc (52 + (1022 + e)) * rate
  frac_hi =
      lt_of_lt_of_le (mul-lt-mul_of_pos_right w.hi (pow_pos 1074))
      (le_of_eq (sym (split_by (suc (52 + (1022 + e))) (suc e) 1074 rate (omega (arith, few)))))

  -- so N is K units, of 53 digits: 2 ^ e ≤ N < 2 ^ (e + 1), and e is N's own exponent
  pub K-lo : 2 ^ 52 ≤ KAt e rate
  K-lo =
      subst (λ (x : ℕ). x ≤ KAt e rate) (closest_one (2 ^ 52))
      (closest_mono (2 ^ 52) 1 (2 ^ (72 - e)) rate (lit< tt) rate_pos
      (le_trans (le_of_eq (split_by 52 e (52 - e) rate (omega (arith, few))))
      (le_trans (mul-le-mul_right (2 ^ (52 - e)) w.lo)
      (le_of_eq (sym (split (72 - e) 20 (52 - e) (omega (arith, few))) ∙ sym (mul-one (2 ^ (72 - e))))))))

  rate_le : rate ≤ 2 ^ (52 - e)
  rate_le = le_trans (le_trans (le_of_eq (sym (one-mul rate))) (mul-le-mul_right rate (pow_pos e))) (le_trans w.lo (pow_mono {i = 20} (omega (arith, few))))

  -- 1048576 is a whole number below 2 ^ (e + 1) * rate, so the quotient stays clear of 2 ^ (e + 1)
  clear : (2 ^ 53 - 1) * rate ≡ 2 ^ 53 * rate - rate
  clear = mul_comm (2 ^ 53 - 1) rate ∙ mul-sub rate (2 ^ 53) 1 ∙ ap₂ (λ (x y : ℕ). x - y) (mul_comm rate (2 ^ 53)) (mul-one rate)

  full : 2 ^ (72 - e) + 2 ^ (52 - e) ≤ 2 ^ 53 * rate
  full =
      let high = split (72 - e) 20 (52 - e) (omega (arith, few)) in
      le_trans (le_of_eq (ap₂ (λ (x y : ℕ). x + y) high (sym (one-mul (2 ^ (52 - e)))) ∙ sym (add-mul 1048576 1 (2 ^ (52 - e)))))
      (le_trans (mul-le-mul_right {m = 1048576 + 1} (2 ^ (52 - e)) w.hi)
      (le_of_eq (sym (split_by 53 (suc e) (52 - e) rate (omega (arith, few))))))

  pub K-hi : KAt e rate < 2 ^ 53
  K-hi =
      le_suc_of
      (subst (λ (x : ℕ). KAt e rate ≤ x) (closest_one (2 ^ 53 - 1))
      (closest_mono (2 ^ (72 - e)) rate (2 ^ 53 - 1) 1 rate_pos (lit< tt)
      (le_trans (le_of_eq (mul-one (2 ^ (72 - e)))) (le_trans (less (2 ^ (72 - e)) (2 ^ (52 - e)) rate (2 ^ 53 * rate) full rate_le) (le_of_eq (sym clear))))))

  unit_lo : 2 ^ (52 + (1022 + e)) * 2 ^ (52 - e) ≤ KAt e rate * 2 ^ 1074
  unit_lo = le_trans (le_of_eq (join (52 + (1022 + e)) (52 - e) 52 1074 (omega (arith, few)))) (mul-le-mul_right (2 ^ 1074) K-lo)

  unit_hi : KAt e rate * 2 ^ 1074 < 2 ^ suc (52 + (1022 + e)) * 2 ^ (52 - e)
  unit_hi = lt_of_lt_of_le (mul-lt-mul_of_pos_right K-hi (pow_pos 1074)) (le_of_eq (sym (join (suc (52 + (1022 + e))) (52 - e) 53 1074 (omega (arith, few)))))

  frac_kept : closest (1048576 * 2 ^ 1074) (rate * 2 ^ (1022 + e)) ≡ KAt e rate
  frac_kept =
      closest_same (1048576 * 2 ^ 1074) (rate * 2 ^ (1022 + e)) (2 ^ (72 - e)) rate (mul-pos rate_pos (pow_pos (1022 + e))) rate_pos
      (ap (λ (x : ℕ). x * rate) (sym (join (72 - e) (1022 + e) 20 1074 (omega (arith, few))))
      ∙ mul_assoc (2 ^ (72 - e)) (2 ^ (1022 + e)) rate
      ∙ ap (λ (x : ℕ). 2 ^ (72 - e) * x) (mul_comm (2 ^ (1022 + e)) rate))

  unit_kept : closest (KAt e rate * 2 ^ 1074) (2 ^ (52 - e) * 2 ^ (1022 + e)) ≡ KAt e rate
  unit_kept =
      closest_same (KAt e rate * 2 ^ 1074) (2 ^ (52 - e) * 2 ^ (1022 + e)) (KAt e rate) 1 (mul-pos (pow_pos (52 - e)) (pow_pos (1022 + e))) (lit< tt)
      (mul-one (KAt e rate * 2 ^ 1074) ∙ ap (λ (x : ℕ). KAt e rate * x) (split 1074 (52 - e) (1022 + e) (omega (arith, few))))
      ∙ closest_one (KAt e rate)

  -- N is K units
  pub every-at : every_at rate ≡ units_of binary64 (52 - e) (KAt e rate)
  unfolding every_at units_of
  every-at =
      round_at 1048576 rate (1022 + e) rate_pos frac_lo frac_hi
      ∙ ap (λ (x : ℕ). units binary64 false x (1022 + e)) (frac_kept ∙ sym unit_kept)
      ∙ sym (round_at (KAt e rate) (2 ^ (52 - e)) (1022 + e) (pow_pos (52 - e)) unit_lo unit_hi)

  -- N is at most 2 ^ (e + 1) - 1
  module _ (high : KAt e rate + 2 ^ (52 - e) ≤ 2 ^ 53) where
    pub room_at : Room (52 - e) (KAt e rate)
    room_at = record { deep = omega (arith, few); low = le_trans (pow_mono {j = 52} (omega (arith, few))) K-lo; high = high }

    -- demand 3 for the rate
    pub conserved_at : (cs : List Call) → Conserved (52 - e) (KAt e rate) cs (run (every_at rate) cs fresh)
    conserved_at cs = rw every-at (conserved_by (52 - e) (KAt e rate) room_at cs)

-- ---- N as the source's division of two whole floats
pub divided : (rate : ℕ) → 0 < rate → rate ≤ 2 ^ 53 → div binary64 (of_int binary64 (pos 1048576)) (of_int binary64 (pos rate)) ≡ every_at rate
unfolding every_at of_int
divided rate R h =
    let top = round_whole binary64 false 1048576 (lit≤ tt) in
    let bottom = round_whole binary64 false rate h in
    div_at binary64 (round binary64 false 1048576 1) (round binary64 false rate 1) 1048576 rate 1 1 (lit< tt) R top bottom
    ∙ round_same binary64 false (1048576 * 1) (1 * rate) 1048576 rate (mul-pos {m = 1} (lit< tt) R) R (ap (λ (x : ℕ). 1048576 * x) (sym (one-mul rate)))

-- ---- e worked out
suc_pred : (z : ℕ) → 0 < z → suc (z - 1) ≡ z
suc_pred z h = omega arith

pub exponent-of : (rate : ℕ) → 0 < rate → rate ≤ 1048576 → Exponent rate (exponent_of rate)
exponent-of rate R r =
    let q = 1048576 / rate in
    let one : 1 ≤ q = (le-div_iff_mul-le R).1 (le_trans (le_of_eq (one-mul rate)) r) in
    let some : 0 < size q = lt_of_not-le (λ (g : size q ≤ 0). not-le_of_lt (lt_of_lt_of_le (size-lt q) (pow_mono g)) one) in
    record {
      lo = (le-div_iff_mul-le R).0 (size_reaches q (exponent_of rate) (le_of_eq (suc_pred (size q) some)));
      hi = (div-lt_iff_lt-mul R).0 (subst (λ (x : ℕ). q < 2 ^ x) (sym (suc_pred (size q) some)) (size-lt q));
    }

-- ---- the four
pub at_32000 : (cs : List Call) → Conserved 47 (KAt 5 32000) cs (run (every_at 32000) cs fresh)
at_32000 = conserved_at 32000 5 (record { lo = lit≤ tt; hi = lit< tt }) (lit≤ tt)

pub at_44100 : (cs : List Call) → Conserved 48 (KAt 4 44100) cs (run (every_at 44100) cs fresh)
at_44100 = conserved_at 44100 4 (record { lo = lit≤ tt; hi = lit< tt }) (lit≤ tt)

pub at_48000 : (cs : List Call) → Conserved 48 (KAt 4 48000) cs (run (every_at 48000) cs fresh)
at_48000 = conserved_at 48000 4 (record { lo = lit≤ tt; hi = lit< tt }) (lit≤ tt)

pub at_96000 : (cs : List Call) → Conserved 49 (KAt 3 96000) cs (run (every_at 96000) cs fresh)
at_96000 = conserved_at 96000 3 (record { lo = lit≤ tt; hi = lit< tt }) (lit≤ tt)

pub K-44100 : KAt 4 44100 ≡ K
K-44100 = refl
