-- Each channel's way to both sides and the sums are the definition's, by what the calls ensure. Assumes nothing.
use Rattle.apu_run.specs.FrameSettings.{frame_step_by}
use Rattle.apu_run.proofs.frame_step.step_frame.Goals as goal

pub returns : goal.returns
unfolding frame_step_by
returns c = rw (c.mix_of.ensures, c.sound_channel-n.ensures, c.sound_channel-w.ensures, c.sound_channel-q.ensures, c.sound_channel-p.ensures)
