-- At every turn the bytes counted and the commands to come say what all of them say; the place moves on by one byte and more. Assumes nothing.
use Prim.Native.Nat.{◌-◌}
use lib.ListN.{length}
use Rattle.log_vgm.proofs.Scanning.{Scanning}
use Rattle.log_vgm.proofs.scan.scan.Given as goal

abbrev pub invariant-loop-taken : goal.invariant-loop-taken
invariant-loop-taken l = Scanning l.vgm l.initial.walk l.opening l.walk l.bytes

abbrev pub decreases-loop-taken : goal.decreases-loop-taken
decreases-loop-taken l = length l.vgm - l.walk.at
