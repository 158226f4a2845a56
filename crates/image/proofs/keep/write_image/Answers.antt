-- The room decides; where it is enough, the unit's bytes are put at the front. Assumes nothing.
use Rattle.image.proofs.Answering.{short_answer, short_kept, done_answer, done_stored}
use Rattle.image.proofs.keep.write_image.Goals as goal

pub returns-then-out-lt-IMAGE_BYTES : goal.returns-then-out-lt-IMAGE_BYTES
returns-then-out-lt-IMAGE_BYTES c = record { value = short_answer _ c.if-out-lt-IMAGE_BYTES.true; out_after = short_kept _ _ c.if-out-lt-IMAGE_BYTES.true }

pub returns : goal.returns
returns c =
    let put-unit = c.put_unit in
    let if1 = c.if-out-lt-IMAGE_BYTES in
    let room = if1.false in
    record { value = done_answer _ room; out_after = done_stored _ _ _ room put-unit.ensures }
