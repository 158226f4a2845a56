-- Each part is the definition's, by what its call ensures. Assumes nothing.
use Rattle.apu_run.specs.FrameSettings.{frame_settings_of}
use Rattle.apu_run.proofs.frame_settings.frame_settings_of.Goals as goal

pub returns : goal.returns
unfolding frame_settings_of
returns c =
    rw (
      c.loud-2.ensures,
      c.loud.ensures,
      c.route_of-2.ensures,
      c.muted-2.ensures,
      c.route_of.ensures,
      c.muted.ensures,
      c.pulse_settings_of-2.ensures,
      c.pulse_settings_of.ensures,
    )
