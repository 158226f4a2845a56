-- At every turn the records put so far are one run of stores. Assumes nothing.
use mathlib.Core.Path.{◌≡◌}
use lib.Seq.{sets}
use Rattle.log_vgm.specs.Log.{wholes, written}
use Rattle.log_vgm.proofs.write.put_wholes.Given as goal

abbrev pub invariant-loop-i : goal.invariant-loop-i
invariant-loop-i l = l.out ≡ sets l.initial.out 0 (written (wholes l.calls l.i))
