-- At every turn the calls still to come leave the unit as all of them leave it from the start. Assumes nothing.
use Prim.Native.Nat.{◌+◌}
use native.Mathlib.Omega.{arith}
use Rattle.player.proofs.Showing.{call_on, called_all}
use Rattle.player.proofs.show_clocks.Goals as goal

pub loop-from-preserved : goal.loop-from-preserved
loop-from-preserved g c =
    call_on c.loop-from.invariant c.min-to.result (c.loop-from.from + 1024) _
    (omega (arith, c.saturating_add.ensures, c.min-to.ensures))
    (omega (arith, c.saturating_add.ensures, c.min-to.ensures))
    (omega (arith, c.saturating_add.ensures, c.min-to.ensures))
    c.show_some-next.ensures.value c.show_some-next.ensures.still_held

pub returns-clause-value : goal.returns-clause-value
returns-clause-value g c = called_all c.loop-from.invariant c.loop-from-test.false
