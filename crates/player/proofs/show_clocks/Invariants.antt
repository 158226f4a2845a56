-- At every turn the calls still to come leave the unit as all of them leave it from the start. Assumes nothing.
use Rattle.player.proofs.Showing.{Calling}
use Rattle.player.proofs.show_clocks.Given as goal

abbrev pub invariant-loop-from : goal.invariant-loop-from
invariant-loop-from g l = Calling l.double l.divider l.count l.fn.apu l.from l.next
