-- The log is answered on the unit, then the place is looked at; what is played is what was answered, and the image that of the unit after it. Assumes nothing.
use mathlib.Core.Path.{refl, ap, ◌∙◌}
use native.Mathlib.Nat.{zero-add}
use lib.ListN.{length}
use Rattle.std.specs.Prelude.{Ok, Err}
use Rattle.std.proofs.lemmas.Result.{err_from_is_err_and}
use Rattle.apu.specs.declared.Apu.{Apu}
use Rattle.apu_run.specs.declared.calls.Play.{Play}
use Rattle.image.specs.Answers.{saved_in}
use Rattle.image.proofs.Answering.{done_answer}
use Rattle.log_player.specs.Playing.{output}
use Rattle.log_records.specs.Records.{listed}
use Rattle.log_player.proofs.Answering.{room, put_out}
use Rattle.image_player.proofs.Answering.{no_room, played, refused}
use Rattle.image_player.proofs.play.play_kept.Goals as goal

pub returns-in_err-played : goal.returns-in_err-played
returns-in_err-played c =
    let args = c.args in
    let p = err_from_is_err_and c.from_residual.result c.from_residual.ensures.1 in
    let told = refused args.apu args.log.now args.out.now args.after.now {answer = Err c.in_err-played.field-0.0} c.in_err-played.ensures.value refl in
    record { value = rw (p.1, p.2) told.0; out_after = told.1.0; after_after = told.1.1 }

pub returns-then-after-lt-IMAGE_BYTES : goal.returns-then-after-lt-IMAGE_BYTES
returns-then-after-lt-IMAGE_BYTES c =
    let args = c.args in
    let is = c.in_ok-played.ensures.value in
    let told = no_room args.apu args.log.now args.out.now args.after.now {answer = Ok c.in_ok-played.played} is refl c.if-after-lt-IMAGE_BYTES.true in
    record { value = told.0; out_after = told.1.0; after_after = told.1.1 }

-- the version is the log's own, so the records are too
pub play_list-end-requires-clause-apu_in_bounds : goal.play_list-end-requires-clause-apu_in_bounds
play_list-end-requires-clause-apu_in_bounds c =
    let args = c.args in
    rw (c.version_of.ensures, zero-add (length (output (listed args.log.now) args.apu)))
    (room args.apu args.log.now args.out.now {answer = Ok c.in_ok-played.played} c.in_ok-played.ensures.value refl)

pub unwrap-requires : goal.unwrap-requires
unwrap-requires c = rw (c.write_image.ensures.value, ← done_answer _ c.if-after-lt-IMAGE_BYTES.false) refl

pub returns : goal.returns
returns c =
    let args = c.args in
    let is = c.in_ok-played.ensures.value in
    let put = put_out args.apu args.log.now args.out.now {answer = Ok c.in_ok-played.played} is refl in
    let all = rw c.version_of.ensures at c.play_list-end.ensures in
    let unit = ap (λ (p : Play). p.apu) all.value in
    let image = c.write_image.ensures.out_after ∙ ap (λ (u : Apu). saved_in u args.after.now) unit in
    let told =
    played args.apu args.log.now args.out.now args.after.now {answer = Ok c.in_ok-played.played} is refl c.if-after-lt-IMAGE_BYTES.false
    (all.out_after ∙ put) image in
    record { value = told.0; out_after = told.1.0; after_after = told.1.1 }
