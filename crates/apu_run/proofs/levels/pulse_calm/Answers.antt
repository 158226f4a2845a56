-- By whether there was a trigger; the two outputs are the definition's. Assumes nothing.
use Rattle.ground.specs.Pick.{pick}
use Rattle.apu_run.specs.FrameSettings.{pulse_calm}
use Rattle.apu_run.proofs.levels.pulse_calm.Goals as goal

pub returns-then-channel : goal.returns-then-channel
unfolding pick pulse_calm
returns-then-channel c =
    rw (c.if-channel.true, c.calm-clocks.ensures, c.reload.ensures, c.pulse_output-now.ensures.value, c.pulse_output-next.ensures.value)

pub returns-else-channel : goal.returns-else-channel
unfolding pick pulse_calm
returns-else-channel c = rw c.if-channel.false
