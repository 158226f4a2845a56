-- Each way out is the case of `expired` that the test picks. Assumes nothing.
use Rattle.ground.specs.Pick.{pick}
use Rattle.channel_parts.specs.Envelope.{expired}
use Rattle.channel_parts.proofs.envelope.Envelope.expire.Goals as goal

pub returns-then-runs : goal.returns-then-runs
unfolding pick expired
returns-then-runs c =
    let runs = c.runs in
    let reload = c.reload in
    rw (c.step.ensures, ← runs.ensures, c.if-runs.true, reload.ensures)

pub returns-else-runs : goal.returns-else-runs
unfolding pick expired
returns-else-runs c =
    let runs = c.runs in
    let reload = c.reload in
    rw (← runs.ensures, c.if-runs.false, reload.ensures)
