-- Every call keeps the ranges. Assumes nothing.
use Rattle.apu.specs.Held.{Held}
use Rattle.replay.proofs.plain.play_calls.Given as goal

abbrev pub invariant-loop-i : goal.invariant-loop-i
invariant-loop-i g l = Held l.next
