-- At every turn the records still to come leave the unit as all of them leave it from the start; the place moves on by two bytes and more. Assumes nothing.
use Prim.Native.Nat.{◌-◌}
use lib.ListN.{length}
use Rattle.log_records.specs.Records.{records_from, unrolled, listed_as}
use Rattle.player.proofs.Showing.{Showing}
use Rattle.player.proofs.show_list.Given as goal

abbrev pub invariant-loop-len : goal.invariant-loop-len
invariant-loop-len g l = Showing (listed_as l.version l.log) l.fn.apu (unrolled (records_from l.version l.log l.at)) l.next

abbrev pub decreases-loop-len : goal.decreases-loop-len
decreases-loop-len g l = length l.log - l.at
