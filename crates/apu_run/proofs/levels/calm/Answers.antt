-- By the choice. Assumes nothing.
use Rattle.ground.specs.Pick.{pick}
use Rattle.apu_run.specs.FrameSettings.{calm_by}
use Rattle.apu_run.proofs.levels.calm.Goals as goal

pub returns-then-same : goal.returns-then-same
unfolding pick calm_by
returns-then-same c =
    let if1 = c.if-same in
    rw if1.true

pub returns-else-same : goal.returns-else-same
unfolding pick calm_by
returns-else-same c =
    let if1 = c.if-same in
    rw if1.false
