-- Both bits are the definition's. Assumes nothing.
use Rattle.apu_run.specs.FrameSettings.{route_of}
use Rattle.apu_run.proofs.frame_settings.route_of.Goals as goal

pub returns : goal.returns
unfolding route_of
returns c = rw (c.selected-left.ensures, c.selected-right.ensures)
