-- The ranges are held at every turn. Assumes nothing.
use Rattle.apu.specs.Held.{Held}
use Rattle.sequences.proofs.main.Given as goal

abbrev pub invariant-loop-command : goal.invariant-loop-command
invariant-loop-command l = Held l.unit
