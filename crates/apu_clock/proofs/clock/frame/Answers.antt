-- The frame keeps the ranges that the rest of the clock asks. Assumes nothing.
use Rattle.apu_clock.specs.Clocking.{frame_of}
use Rattle.apu_clock.proofs.Ranges.{pushed_held}
use Rattle.apu_clock.proofs.clock.frame.Goals as goal

pub pass-requires : goal.pass-requires
pass-requires c = record { held = rw c.push_output-framed.ensures (pushed_held _ c.requires.held); half_bound = c.requires.half_bound }

pub returns : goal.returns
unfolding frame_of
returns c = rw (c.pass.ensures, c.push_output-framed.ensures)
