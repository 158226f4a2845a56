-- The sequencer's step keeps the ranges. Assumes nothing.
use Rattle.apu_run.proofs.Marks.{fallen_ready}
use Rattle.apu_run.proofs.calls.fall.Goals as goal

pub returns-clause-still_held : goal.returns-clause-still_held
returns-clause-still_held c =
    let ran = c.settle-q.ensures.still_held in
    let down = fallen_ready c.settle-q.result.apu (record { held = ran.0; floats = ran.1 }) in
    rw c.advance-after.ensures (down.held, down.floats)
