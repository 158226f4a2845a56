-- The image is taken or not; a unit that was taken is in its ranges, and the log is played on it. Assumes nothing.
use mathlib.Core.Path.{sym, ap, ◌∙◌}
use Rattle.std.proofs.lemmas.Result.{err_from_is_err_and}
use Rattle.image.specs.declared.keep.Taken.{Taken}
use Rattle.image_laws.proofs.Hold.{images}
use Rattle.image_player.proofs.Answering.{on_taken, on_wrong}
use Rattle.image_player.proofs.play.play_image.Goals as goal

pub returns-in_err-taken : goal.returns-in_err-taken
returns-in_err-taken c =
    let args = c.args in
    let p = err_from_is_err_and c.from_residual.result c.from_residual.ensures.1 in
    let wrong = ap (λ (t : Taken). t.answer) (sym c.take_image-taken.ensures) ∙ c.in_err-taken.was in
    let told = on_wrong args.image.now args.log.now args.out.now args.after.now wrong in
    record { value = rw (p.1, p.2) told.0; out_after = told.1.0; after_after = told.1.1 }

pub play_kept-requires : goal.play_kept-requires
play_kept-requires c = rw c.take_image-taken.ensures (images.whole c.args.image.now)

pub returns : goal.returns
returns c =
    let args = c.args in
    let is = c.take_image-taken.ensures in
    let done = ap (λ (t : Taken). t.answer) (sym is) ∙ c.in_ok-taken.was in
    let k = c.play_kept.ensures in
    let told =
    on_taken args.image.now args.log.now args.out.now args.after.now done (rw is at k.value, (rw is at k.out_after, rw is at k.after_after)) in
    record { value = told.0; out_after = told.1.0; after_after = told.1.1 }
