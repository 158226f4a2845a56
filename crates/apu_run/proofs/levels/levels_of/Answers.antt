-- Each output and its level are the definition's, by what the calls ensure. Assumes nothing.
use Rattle.apu_run.specs.FrameSettings.{levels_of}
use Rattle.apu_run.proofs.levels.levels_of.Goals as goal

pub returns : goal.returns
unfolding levels_of
returns c =
    rw (
      c.level-4.ensures,
      c.level-3.ensures,
      c.level-2.ensures,
      c.level.ensures,
      c.noise_output-output4.ensures.value,
      c.wave_output-output3.ensures.value,
      c.pulse_output-output2.ensures.value,
      c.pulse_output-output1.ensures.value,
    )
