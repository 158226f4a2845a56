-- At every turn what was found, joined to what the rest of the log has, is what the whole log has; the place moves on by two bytes and more. Assumes nothing.
use Prim.Native.Nat.{◌-◌}
use lib.ListN.{length}
use Rattle.log_scan.proofs.Counting.{Going}
use Rattle.log_scan.proofs.scan.scan_list.Given as goal

abbrev pub invariant-loop-clocks : goal.invariant-loop-clocks
invariant-loop-clocks l = Going l.version l.log l.at l.found

abbrev pub decreases-loop-clocks : goal.decreases-loop-clocks
decreases-loop-clocks l = length l.log - l.at
