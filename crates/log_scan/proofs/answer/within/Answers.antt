-- A refusal stays as it is; else the room decides. Assumes nothing.
use Rattle.std.specs.Prelude.{Ok, Err}
use Rattle.log_scan.specs.declared.answer.LogRefusal.TheVariants.{TooShort}
use borrow.Author.Tests.{lt-ltb, le-ltb}
use Rattle.std.proofs.lemmas.Result.{err_from_is_err_and}
use mathlib.Core.Path.{refl}
use Rattle.ground.specs.Pick.{pick}
use Rattle.log_scan.specs.Answers.{within_room}
use Rattle.log_scan.proofs.Refusals.{within_refuses}
use Rattle.log_scan.proofs.answer.within.Goals as goal

pub returns-in_err-played : goal.returns-in_err-played
unfolding within_room
returns-in_err-played c =
    let p = err_from_is_err_and c.from_residual.result c.from_residual.ensures.1 in
    let told = within_refuses c.args.room c.args.answer (rw (p.1, p.2, c.in_err-played.was) refl) in
    record { value = told.0; result_value = told.1 }

pub returns-then-room-played : goal.returns-then-room-played
unfolding pick within_room
returns-then-room-played c =
    let told = within_refuses c.args.room c.args.answer {r = Err (TooShort c.in_ok-played.played.written)}
    (rw (c.in_ok-played.was, lt-ltb _ _ c.if-room-played.true)) in
    record { value = told.0; result_value = told.1 }

pub returns : goal.returns
unfolding pick within_room
returns c =
    let told = within_refuses c.args.room c.args.answer {r = Ok c.in_ok-played.played} (rw (c.in_ok-played.was, le-ltb _ _ c.if-room-played.false)) in
    record { value = told.0; result_value = told.1 }
