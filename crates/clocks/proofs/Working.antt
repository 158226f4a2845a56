-- One working clock, where N is M units of 2 ^ -u and the counter k: with nothing rounded, for an M that leaves room for the 2 ^ u units of 1.0 below 2 ^ 53.
-- Assumes nothing.
use mathlib.Core.Path.{◌≡◌, refl, sym, ap, ◌∙◌}
use mathlib.Core.Bool.{Bool, true, false}
use Prim.Native.Nat.{ℕ, ◌+◌, ◌-◌, ◌^◌, ◌≤◌, ◌<◌}
use native.Mathlib.Nat.{mul_comm, lt_of_lt_of_le}
use native.Mathlib.Omega.{arith}
use lib.Dec.{T, leb, leb→le, lit<}
use lib.Pow.{pow_pos}
use lib.Ieee.{Float, binary64, round, add, le}
use lib.Ieee.Scale.{round_same}
use Rattle.clocks.specs.declared.sample_counter.Ticked.{Ticked}
use Rattle.ground.specs.Units.{units_of}
use Rattle.clocks.specs.Counter.{f64_one, taken, tick_by}
use Rattle.ground.proofs.Units.{add_units, sub_units, le_units}

-- 1.0 is 2 ^ u units
round_one : round binary64 false 1 1 ≡ f64_one
unfolding round
round_one = refl

pub one_units : (u : ℕ) → units_of binary64 u (2 ^ u) ≡ f64_one
unfolding units_of
one_units u = round_same binary64 false (2 ^ u) (2 ^ u) 1 1 (pow_pos u) (lit< tt) (mul_comm (2 ^ u) 1) ∙ round_one

-- t units, N reached or not
abbrev pub left : ℕ → ℕ → Bool → ℕ → Ticked
left u M true t = record { made = true; counter = units_of binary64 u (t - M) }
left u M false t = record { made = false; counter = units_of binary64 u t }

-- 1 ≤ N, and N + 1 ≤ 2 ^ 53 units
pub record Room (u M : ℕ) : Type 0 where
  pub deep : u ≤ 1074
  pub low : 2 ^ u ≤ M
  pub high : M + 2 ^ u ≤ 2 ^ 53

-- so that N is not 0
pub room_pos : {u M : ℕ} → Room u M → 0 < M
room_pos {u} r = lt_of_lt_of_le (pow_pos u) r.low

below : (k M p B : ℕ) → M + p ≤ B → k < M → k + p < B
below k M p B h l = omega arith

self_below : (M p B : ℕ) → 0 < p → M + p ≤ B → M < B
self_below M p B h l = omega arith

one_below : (M p B : ℕ) → p ≤ M → 0 < p → M + p ≤ B → p < B
one_below M p B h l r = omega arith

pos_sum : (k p : ℕ) → 0 < p → 0 < k + p
pos_sum k p h = omega arith

pub tick_units : (u M k : ℕ) → Room u M → k < M → tick_by (units_of binary64 u M) (units_of binary64 u k) ≡ left u M (leb M (k + 2 ^ u)) (k + 2 ^ u)
unfolding tick_by
tick_units u M k r h =
    let p = 2 ^ u in
    let n = units_of binary64 u M in
    let t-lt : k + p < 2 ^ 53 = below k M p (2 ^ 53) r.high h in
    let M-lt : M < 2 ^ 53 = self_below M p (2 ^ 53) (pow_pos u) r.high in
    let k_lt : k < 2 ^ 53 = omega arith in
    let p-lt : p < 2 ^ 53 = one_below M p (2 ^ 53) r.low (pow_pos u) r.high in
    let added : add binary64 (units_of binary64 u k) f64_one ≡ units_of binary64 u (k + p) =
    ap (λ (x : Float). add binary64 (units_of binary64 u k) x) (sym (one_units u)) ∙ add_units binary64 u r.deep k p k_lt p-lt in
    let compared = le_units binary64 u r.deep M (k + p) M-lt t-lt (room_pos r) (pos_sum k p (pow_pos u)) in
    ap (λ (s : Float). taken (le n s) n s) added
    ∙ ap (λ (b : Bool). taken b n (units_of binary64 u (k + p))) compared
    ∙ go (leb M (k + p)) (leb→le M (k + p)) t-lt M-lt
  where
    go : (b : Bool) → (T b → M ≤ k + 2 ^ u) → k + 2 ^ u < 2 ^ 53 → M < 2 ^ 53
        → taken b (units_of binary64 u M) (units_of binary64 u (k + 2 ^ u)) ≡ left u M b (k + 2 ^ u)
    go true g t-lt M-lt = ap (λ (x : Float). record { made = true; counter = x }) (sub_units binary64 u r.deep (k + 2 ^ u) M t-lt M-lt (g tt))
    go false g t-lt M-lt = refl
