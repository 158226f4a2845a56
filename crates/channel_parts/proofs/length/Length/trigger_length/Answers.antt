-- Each way out is the case of `triggered` that the counter picks. Assumes nothing.
use borrow.Author.Tests.{eq-eqb, ne_eqb}
use Rattle.ground.specs.Pick.{pick}
use Rattle.channel_parts.specs.Length.{triggered}
use Rattle.channel_parts.proofs.length.Length.trigger_length.Goals as goal

pub returns-then-self-eq0 : goal.returns-then-self-eq0
unfolding triggered pick
returns-then-self-eq0 c =
    let less = c.saturating_sub in
    let flag = c.flag in
    rw (eq-eqb _ _ c.if-self-eq0.true, less.ensures, flag.ensures.value)

pub returns-else-self-eq0 : goal.returns-else-self-eq0
unfolding triggered pick
returns-else-self-eq0 c = rw (ne_eqb _ _ c.if-self-eq0.false)
