-- Each way out is the case of `expired` that the test picks; what is reloaded is in range. Assumes nothing.
use Rattle.ground.specs.Pick.{pick}
use Rattle.channel_pulse.specs.Sweep.{expired}
use Rattle.channel_pulse.proofs.Ranges.{reloaded_held}
use Rattle.channel_pulse.proofs.sweep.Sweep.expire.Goals as goal

pub update-requires : goal.update-requires
update-requires c =
    let reload = c.reload_sweep_counter-next in
    rw reload.ensures (reloaded_held _ c.requires)

pub returns-then-due : goal.returns-then-due
unfolding pick expired
returns-then-due c =
    let reload = c.reload_sweep_counter-next in
    rw (c.update.ensures, c.if-due.true, reload.ensures)

pub returns-else-due : goal.returns-else-due
unfolding pick expired
returns-else-due c =
    let reload = c.reload_sweep_counter-next in
    rw (c.if-due.false, reload.ensures)
