-- Each way out is the case of `triggered` that the shift picks; what is started is in range. Assumes nothing.
use borrow.Author.Tests.{eq-eqb, ne_eqb}
use Rattle.ground.specs.Pick.{pick}
use Rattle.channel_pulse.specs.Sweep.{triggered}
use Rattle.channel_pulse.proofs.Ranges.{sweep_started_held}
use Rattle.channel_pulse.proofs.sweep.Sweep.sweep_trigger.Goals as goal

pub check-requires : goal.check-requires
check-requires c =
    let started = c.start-next in
    let held = c.requires in
    rw started.ensures (sweep_started_held _ _ held.held held.frequency_bound)

pub returns-then-self-eq0 : goal.returns-then-self-eq0
unfolding pick triggered
returns-then-self-eq0 c = rw (eq-eqb _ _ c.if-self-eq0.true, c.start-next.ensures)

pub returns-else-self-eq0 : goal.returns-else-self-eq0
unfolding pick triggered
returns-else-self-eq0 c =
    let started = c.start-next in
    rw (c.check.ensures, ne_eqb _ _ c.if-self-eq0.false, started.ensures)
