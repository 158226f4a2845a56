-- The frames are those of the half-clocks, no more than they are, so the bytes stay in 48 bits. Assumes nothing.
use native.Mathlib.Omega.{arith}
use Rattle.clocks.proofs.Totals.{frames_le}
use Rattle.log_scan.proofs.answer.counted.Goals as goal

pub overflow_mul-result : goal.overflow_mul-result
overflow_mul-result c =
    let h = c.requires.small.halves in
    let l = frames_le c.args.meter c.args.sums.halves c.requires.held in
    rw c.frames_from-frames.ensures (omega arith)

pub overflow_add-result : goal.overflow_add-result
overflow_add-result c =
    let h = c.requires.small.halves in
    let k = c.requires.small.read_bytes in
    let l = frames_le c.args.meter c.args.sums.halves c.requires.held in
    rw c.frames_from-frames.ensures (omega arith)

pub returns : goal.returns
returns c = rw c.frames_from-frames.ensures
