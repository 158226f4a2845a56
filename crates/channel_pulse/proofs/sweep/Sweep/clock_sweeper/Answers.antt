-- Each way out is the case of `clocked` that the counter picks. Assumes nothing.
use borrow.Author.Tests.{eq-eqb, ne_eqb}
use Rattle.ground.specs.Pick.{pick}
use Rattle.channel_pulse.specs.Sweep.{clocked}
use Rattle.channel_pulse.proofs.sweep.Sweep.clock_sweeper.Goals as goal

pub returns-then-next-eq0 : goal.returns-then-next-eq0
unfolding pick clocked
returns-then-next-eq0 c =
    let less = c.saturating_sub in
    rw (c.expire.ensures, ← less.ensures, eq-eqb _ _ c.if-next-eq0.true)

pub returns-else-next-eq0 : goal.returns-else-next-eq0
unfolding pick clocked
returns-else-next-eq0 c =
    let less = c.saturating_sub in
    rw (← less.ensures, ne_eqb _ _ c.if-next-eq0.false)
