-- Each part and each choice are the definition's, by what the calls ensure. Assumes nothing.
use Rattle.apu_run.specs.FrameSettings.{calm_of}
use Rattle.apu_run.proofs.levels.calm_of.Goals as goal

pub returns : goal.returns
unfolding calm_of
returns c =
    rw (
      c.min-3.ensures,
      c.min-2.ensures,
      c.min.ensures,
      c.noise_calm-noise.ensures,
      c.pulse_calm-pulse2.ensures,
      c.pulse_calm-pulse1.ensures,
    )
