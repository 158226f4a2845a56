-- Each way out is the case of `divisor_of` that the code picks. Assumes nothing.
use borrow.Author.Tests.{eq-eqb, ne_eqb}
use Rattle.ground.specs.Pick.{pick}
use Rattle.channel_noise.specs.Noise.{divisor_of}
use Rattle.channel_noise.proofs.reloads.base_divisor.Goals as goal

pub returns-then-code-eq0 : goal.returns-then-code-eq0
unfolding pick divisor_of
returns-then-code-eq0 c = rw (eq-eqb _ _ c.if-code-eq0.true)

pub returns-else-code-eq0 : goal.returns-else-code-eq0
unfolding pick divisor_of
returns-else-code-eq0 c = rw (ne_eqb _ _ c.if-code-eq0.false)
