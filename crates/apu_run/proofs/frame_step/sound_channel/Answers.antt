-- Both choices are the definition's. Assumes nothing.
use Rattle.ground.specs.Pick.{pick}
use Rattle.apu_run.specs.FrameSettings.{sound_of}
use Rattle.apu_run.proofs.frame_step.sound_channel.Goals as goal
use Rattle.apu_run.proofs.frame_step.sound_channel.Goals.{then-route, else-route}

pub returns-then-route-2 : goal.returns-then-route-2
unfolding pick sound_of
returns-then-route-2 c =
    elim c.if-route.branch [
      | then-route w ↦ rw (w.result-is, w.if-route.true, c.if-route-2.true)
      | else-route w ↦ rw (w.result-is, w.if-route.false, c.if-route-2.true)
    ]

pub returns-else-route-2 : goal.returns-else-route-2
unfolding pick sound_of
returns-else-route-2 c =
    elim c.if-route.branch [
      | then-route w ↦ rw (w.result-is, w.if-route.true, c.if-route-2.false)
      | else-route w ↦ rw (w.result-is, w.if-route.false, c.if-route-2.false)
    ]
