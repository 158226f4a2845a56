-- Working clocks from frame to frame: short of the next frame they only clock the rest of a state, and the one that makes it makes it before that.
-- Assumes nothing.
use mathlib.Core.Path.{◌≡◌, refl, ap, ◌∙◌}
use Prim.Native.Nat.{ℕ, zero, suc, ◌+◌, ◌-◌, ◌*◌, ◌^◌, ◌≤◌, ◌<◌}
use native.Mathlib.Nat.{add-mul, suc-mul, add-sub_cancel}
use native.Mathlib.Omega.{arith}
use lib.Ieee.{Float, binary64}
use Rattle.ground.specs.Pick.{pick}
use Rattle.ground.specs.Iterate.{iterate}
use Rattle.ground.specs.Units.{units_of}
use Rattle.ground.proofs.Timers.{iterate_add}
use Rattle.clocks.specs.declared.sample_counter.Ticked.{Ticked}
use Rattle.clocks.specs.Counter.{every_at, tick_by}
use Rattle.clocks.specs.Calls.{K}
use Rattle.clocks.specs.Distance.{away_of}
use Rattle.clocks.proofs.Working.{Room}
use Rattle.clocks.proofs.Conserved.{every_units, room}
use Rattle.clocks.proofs.Distances.{Due, tick_short, tick_frame, units, away_due, short-of}

-- a state is its sample counter and a rest; a working clock ticks the counter, makes a frame of the rest if one is due, then clocks it
abbrev pub Works : {S A : Type 0} → Float → (Float → A → S) → (S → S) → (A → A) → (A → A) → Type 0
Works {S} {A} n at work clock frame = (c : Float) (a : A) → work (at c a) ≡ at (tick_by n c).counter (clock (pick (tick_by n c).made (frame a) a))

module _ {S A : Type 0} (at : Float → A → S) (work : S → S) (clock frame : A → A) where
  -- ---- at any N of M units of 2 ^ -u
  module _ (u M : ℕ) (r : Room u M) (works : Works (units_of binary64 u M) at work clock frame) where
    -- the state after a working clock, by what it did to the counter
    abbrev by : A → Ticked → S
    by a t = at t.counter (clock (pick t.made (frame a) a))

    one_short : (k : ℕ) (a : A) → k + 2 ^ u < M → work (at (units_of binary64 u k) a) ≡ at (units_of binary64 u (k + 2 ^ u)) (clock a)
    one_short k a h = works (units_of binary64 u k) a ∙ ap (by a) (tick_short u M r k h) ∙ unfold pick in refl

    one_frame : (k : ℕ) (a : A) → k < M → M ≤ k + 2 ^ u → work (at (units_of binary64 u k) a) ≡ at (units_of binary64 u (k + 2 ^ u - M)) (clock (frame a))
    one_frame k a h l = works (units_of binary64 u k) a ∙ ap (by a) (tick_frame u M r k h l) ∙ unfold pick in refl

    pub clocks_short : (n k : ℕ) (a : A) → k + n * 2 ^ u < M
        → iterate n work (at (units_of binary64 u k) a) ≡ at (units_of binary64 u (k + n * 2 ^ u)) (iterate n clock a)
    unfolding iterate
    clocks_short zero k a h = ap (λ (x : ℕ). at (units_of binary64 u x) a) (none k (2 ^ u))
      where
        none : (k p : ℕ) → k ≡ k + zero * p
        none k p = omega arith
    clocks_short (suc n) k a h =
        ap (iterate n work) (one_short k a (first k n (2 ^ u) h))
        ∙ clocks_short n (k + 2 ^ u) (clock a) (rw (← all k n (2 ^ u)) at h)
        ∙ ap (λ (x : ℕ). at (units_of binary64 u x) (iterate n clock (clock a))) (all k n (2 ^ u))
      where
        all : (k n p : ℕ) → k + p + n * p ≡ k + suc n * p
        all k n p = let e : suc n * p ≡ n * p + p = suc-mul n p in omega arith

        first : (k n p : ℕ) → k + suc n * p < M → k + p < M
        first k n p h = let e = all k n p in omega arith

    pub clocks_frame : (k d : ℕ) (a : A) → Due (2 ^ u) M k d
        → iterate d work (at (units_of binary64 u k) a) ≡ at (units_of binary64 u (k + d * 2 ^ u - M)) (clock (frame (iterate (d - 1) clock a)))
    unfolding iterate
    clocks_frame k d a due =
        let n = due.before in
        rw due.is
        (iterate_add n 1 work (at (units_of binary64 u k) a)
        ∙ ap work (clocks_short n k a due.short)
        ∙ one_frame (k + n * 2 ^ u) (iterate n clock a) due.short due.enough
        ∙ rw (all n (2 ^ u), add-sub_cancel n 1))
      where
        all : (n p : ℕ) → k + n * p + p - M ≡ k + (n + 1) * p - M
        all n p = let e : (n + 1) * p ≡ n * p + 1 * p = add-mul n 1 p in omega arith

  -- ---- at 44,100
  module _ (works : Works (every_at 44100) at work clock frame) where
    -- so many working clocks, short of the next frame
    pub before : (n k : ℕ) (a : A) → k < K → n < away_of (units k) → iterate n work (at (units k) a) ≡ at (units (k + n * 2 ^ 48)) (iterate n clock a)
    before n k a h l = clocks_short 48 K room (rw every_units at works) n k a (short-of k n h l)

    -- up to and with it
    pub through : (k : ℕ) (a : A) → k < K
        → let d = away_of (units k) in iterate d work (at (units k) a) ≡ at (units (k + d * 2 ^ 48 - K)) (clock (frame (iterate (d - 1) clock a)))
    through k a h = clocks_frame 48 K room (rw every_units at works) k (away_of (units k)) a (away_due k h)
