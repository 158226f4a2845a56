-- At every turn what is owed and the calls still to come make what all calls make from the start; their number falls. Assumes nothing.
use Prim.Native.Nat.{◌-◌}
use Rattle.apu_run.proofs.Owing.{Owing}
use Rattle.apu_run.proofs.calls.play_clocks.Given as goal

abbrev pub invariant-loop-i : goal.invariant-loop-i
invariant-loop-i l = Owing l.double l.divider l.from l.to l.initial.q l.initial.out l.out l.q.apu l.q.at l.owed l.i

abbrev pub decreases-loop-i : goal.decreases-loop-i
decreases-loop-i l = l.to - l.i
