-- At every turn the bytes put so far, with those of the commands to come, are all of the log's; the place moves on by one byte and more. Assumes nothing.
use Prim.Native.Nat.{◌-◌}
use lib.ListN.{length}
use Rattle.log_vgm.proofs.Putting.{Putting}
use Rattle.log_vgm.proofs.write.put_commands.Given as goal

abbrev pub invariant-loop-taken : goal.invariant-loop-taken
invariant-loop-taken l = Putting l.vgm l.initial.walk l.initial.out l.out l.walk l.at

abbrev pub decreases-loop-taken : goal.decreases-loop-taken
decreases-loop-taken l = length l.vgm - l.walk.at
