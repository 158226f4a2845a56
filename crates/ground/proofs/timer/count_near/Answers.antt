-- Each of the two choices goes by whether the clocks reach the step, and so they go together. Assumes nothing.
use mathlib.Core.Logic.{inl, inr}
use native.Mathlib.Omega.{arith}
use Rattle.ground.proofs.Timers.{run_near}
use Rattle.ground.proofs.timer.count_near.Goals as goal
use Rattle.ground.proofs.timer.count_near.Goals.{then-timer-n-2, then-timer-n, else-timer-n-2, else-timer-n}

pub overflow_add-result : goal.overflow_add-result
overflow_add-result c = elim c.if-timer-n-2.branch [ then-timer-n-2 w ↦ omega arith | else-timer-n-2 w ↦ omega arith ]

pub overflow_sub-result : goal.overflow_sub-result
overflow_sub-result c = elim c.if-timer-n-2.branch [ then-timer-n-2 w ↦ omega arith | else-timer-n-2 w ↦ omega arith ]

pub returns : goal.returns
returns c =
    let stepped = c.if-timer-n in record {
      value = run_near _ _ _ _ _ c.requires.n_bound
          (elim stepped.branch [ then-timer-n w ↦ inl (w.if-timer-n.true, w.steps-is) | else-timer-n w ↦ inr (w.if-timer-n.false, w.steps-is) ])
          (elim c.if-timer-n-2.branch [ then-timer-n-2 w ↦ inl (w.if-timer-n-2.true, w.more-is) | else-timer-n-2 w ↦ inr (w.if-timer-n-2.false, w.more-is) ]);
      steps_le_n = elim stepped.branch [ then-timer-n w ↦ omega arith | else-timer-n w ↦ omega arith ];
    }
