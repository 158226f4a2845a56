-- The start byte and the room decide; what is written is the image of the unit that the byte asks for. Assumes nothing.
use Rattle.std.specs.Prelude.{Ok, Err}
use Rattle.std.proofs.lemmas.Result.{err_from_is_err_and}
use Rattle.image_player.proofs.Making.{bad-start, written}
use Rattle.image_player.proofs.make.fresh_image.Goals as goal

pub returns-then-byte-gt3 : goal.returns-then-byte-gt3
returns-then-byte-gt3 c =
    let both = bad-start c.args.byte c.args.out.now c.if-byte-gt3.true in
    record { value = both.0; out_after = both.1 }

pub returns-in_err-write_image : goal.returns-in_err-write_image
returns-in_err-write_image c =
    let p = err_from_is_err_and c.from_residual.result c.from_residual.ensures.1 in
    let wrote = c.in_err-write_image.ensures in
    let both =
    written c.args.byte c.args.out.now c.if-byte-gt3.false {s = Err c.in_err-write_image.field-0.0} c.start.ensures.value wrote.value wrote.out_after in
    record { value = rw (p.1, p.2) both.0; out_after = both.1 }

pub returns : goal.returns
returns c =
    let wrote = c.in_ok-write_image.ensures in
    let both =
    written c.args.byte c.args.out.now c.if-byte-gt3.false {s = Ok c.in_ok-write_image.field-0} c.start.ensures.value wrote.value wrote.out_after in
    record { value = both.0; out_after = both.1 }
