-- With one step at most as `count_near` says, else by the division. Assumes nothing.
use mathlib.Core.Path.{sym}
use Prim.Native.Nat.{◌-◌}
use native.Mathlib.Omega.{arith}
use native.Mathlib.Nat.{div-le_self, mod-lt}
use Rattle.ground.proofs.Timers.{run_more}
use Rattle.ground.proofs.timer.count_down.Goals as goal

pub returns-then-n-timer : goal.returns-then-n-timer
returns-then-n-timer c = c.count_near.ensures

pub overflow_add-result : goal.overflow_add-result
overflow_add-result c = let a = c.args in omega (arith, div-le_self (a.n - a.timer - 1) a.period)

pub overflow_sub-result-2 : goal.overflow_sub-result-2
overflow_sub-result-2 c = let a = c.args in omega (arith, mod-lt (a.n - a.timer - 1) c.requires.period_nonzero)

pub returns : goal.returns
returns c = let a = c.args in record { value = sym (run_more _ _ _ (omega arith)); steps_le_n = omega (arith, div-le_self (a.n - a.timer - 1) a.period) }
