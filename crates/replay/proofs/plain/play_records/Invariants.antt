-- Every record lies within the log and keeps the ranges; the place moves on by two bytes and more. Assumes nothing.
use Prim.Native.Nat.{◌-◌}
use lib.ListN.{length}
use Rattle.apu.specs.Held.{Held}
use Rattle.replay.proofs.plain.play_records.Given as goal

abbrev pub invariant-loop-len : goal.invariant-loop-len
invariant-loop-len g l = Held l.next

abbrev pub decreases-loop-len : goal.decreases-loop-len
decreases-loop-len g l = length l.log - l.at
