-- Silent or not, what was moved is put back, and that is the unit after the run. Assumes nothing.
use mathlib.Core.Path.{◌∙◌}
use Rattle.apu_run.proofs.Settling.{Settled, settled_held, settled_long, settled_play}
use Rattle.apu_run.proofs.calls.settle.Goals as goal
use Rattle.apu_run.proofs.calls.settle.Goals.{then-silent, else-silent}

pub put_back-apu-requires : goal.put_back-apu-requires
put_back-apu-requires c =
    let if1 = c.if-silent in
    let a = c.args in
    let pre = c.requires in
    let ran : Settled a.p.apu a.owed a.out.now a.p.at if1.ran if1.out =
    elim if1.branch [
      | then-silent w ↦ record { is = w.ran-is ∙ w.rest-ran.ensures.value; bytes = w.out-is ∙ w.rest-ran.ensures.out_after }
      | else-silent w ↦ record { is = w.ran-is ∙ w.sound-ran.ensures.value; bytes = w.out-is ∙ w.sound-ran.ensures.out_after }
    ] in
    settled_held ran (record { held = pre.held; floats = pre.floats_held })

pub shape_of-out : goal.shape_of-out
shape_of-out c =
    let if1 = c.if-silent in
    let a = c.args in
    let ran : Settled a.p.apu a.owed a.out.now a.p.at if1.ran if1.out =
    elim if1.branch [
      | then-silent w ↦ record { is = w.ran-is ∙ w.rest-ran.ensures.value; bytes = w.out-is ∙ w.rest-ran.ensures.out_after }
      | else-silent w ↦ record { is = w.ran-is ∙ w.sound-ran.ensures.value; bytes = w.out-is ∙ w.sound-ran.ensures.out_after }
    ] in
    settled_long ran

pub returns : goal.returns
returns c =
    let put_back = c.put_back-apu in
    let if1 = c.if-silent in
    let a = c.args in
    let ran : Settled a.p.apu a.owed a.out.now a.p.at if1.ran if1.out =
    elim if1.branch [
      | then-silent w ↦ record { is = w.ran-is ∙ w.rest-ran.ensures.value; bytes = w.out-is ∙ w.rest-ran.ensures.out_after }
      | else-silent w ↦ record { is = w.ran-is ∙ w.sound-ran.ensures.value; bytes = w.out-is ∙ w.sound-ran.ensures.out_after }
    ] in
    let both = settled_play ran (record { held = c.requires.held; floats = c.requires.floats_held }) put_back.ensures in
    record { value = both.0; out_after = both.1.0; still_held = both.1.1 }
