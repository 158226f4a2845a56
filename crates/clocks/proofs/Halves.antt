-- Clock calls at one speed, by the half-clocks that they add: "Below 2, the call ends; else 2 are taken off and a working clock follows". Assumes nothing.
use mathlib.Core.Path.{◌≡◌, sym, ap, ap₂, ◌∙◌}
use mathlib.Core.Bool.{Bool, true, false, not}
use Prim.Native.Nat.{ℕ, zero, suc, ◌+◌, ◌-◌, ◌*◌, ◌/◌, ◌%◌, ◌≤◌, ◌<◌}
use native.Mathlib.Nat.{mod-lt, zero-mul, suc-mul}
use native.Mathlib.Omega.{arith}
use lib.Dec.{T, ltb, ltb→lt, nltb→le, lit<}
use Rattle.ground.specs.Pick.{pick}
use Rattle.ground.specs.Iterate.{iterate}
use Rattle.ground.proofs.Timers.{iterate_add}

-- a state is its half-clocks and a rest, which a working clock works on; a call adds d half-clocks
module _
    {S A : Type 0}
    (at : ℕ → A → S)
    (call : S → S)
    (work : A → A)
    (d : ℕ)
    (small : d ≤ 2)
    (calls : (h : ℕ) (a : A) → call (at h a) ≡ pick (ltb (h + d) 2) (at (h + d) a) (at (h + d - 2) (work a)))
  where
    one_call : (h : ℕ) (a : A) → h < 2 → call (at h a) ≡ at ((h + d) % 2) (iterate ((h + d) / 2) work a)
    unfolding iterate pick
    one_call h a l = calls h a ∙ go (ltb (h + d) 2) (ltb→lt (h + d) 2) (nltb→le (h + d) 2)
      where
        go : (b : Bool) → (T b → h + d < 2) → (T (not b) → 2 ≤ h + d)
            → pick b (at (h + d) a) (at (h + d - 2) (work a)) ≡ at ((h + d) % 2) (iterate ((h + d) / 2) work a)
        go true g n =
            let s : h + d < 2 = g tt in
            let e : (h + d) % 2 ≡ h + d = omega arith in
            let f : (h + d) / 2 ≡ 0 = omega arith in
            rw (e, f)
        go false g n =
            let s : 2 ≤ h + d = n tt in
            let e : (h + d) % 2 ≡ h + d - 2 = omega arith in
            let f : (h + d) / 2 ≡ 1 = omega arith in
            rw (e, f)

    -- n calls: every two half-clocks are a working clock
    pub worked : (n h : ℕ) (a : A) → h < 2 → iterate n call (at h a) ≡ at ((h + n * d) % 2) (iterate ((h + n * d) / 2) work a)
    unfolding iterate
    worked zero h a l = ap₂ (λ (x k : ℕ). at x (iterate k work a)) (none h l).0 (none h l).1
      where
        none : (h : ℕ) → h < 2 → (h ≡ (h + zero * d) % 2) × (0 ≡ (h + zero * d) / 2)
        none h l = let z : zero * d ≡ 0 = zero-mul d in (omega arith, omega arith)
    worked (suc n) h a l =
        let joined = sym (iterate_add ((h + d) / 2) (((h + d) % 2 + n * d) / 2) work a) ∙ ap (λ (k : ℕ). iterate k work a) (all n).1 in
        ap (iterate n call) (one_call h a l)
        ∙ worked n ((h + d) % 2) (iterate ((h + d) / 2) work a) (mod-lt (h + d) (lit< tt))
        ∙ ap₂ (λ (x : ℕ) (y : A). at x y) (all n).0 joined
      where
        all : (n : ℕ) → (((h + d) % 2 + n * d) % 2 ≡ (h + suc n * d) % 2) × ((h + d) / 2 + ((h + d) % 2 + n * d) / 2 ≡ (h + suc n * d) / 2)
        all n = let z : suc n * d ≡ n * d + d = suc-mul n d in (omega arith, omega arith)
