-- The version says whether it runs. Assumes nothing.
use borrow.Author.Tests.{eq-eqb, ne_eqb}
use Rattle.ground.specs.Pick.{pick}
use Rattle.log_records.specs.Judge.{divider_in}
use Rattle.log_records.proofs.judge.divider_in.Goals as goal

pub returns-then-version-eq1 : goal.returns-then-version-eq1
unfolding pick divider_in
returns-then-version-eq1 c = let if1 = c.if-version-eq1 in rw (eq-eqb _ _ if1.true)

pub returns-else-version-eq1 : goal.returns-else-version-eq1
unfolding pick divider_in
returns-else-version-eq1 c = let if1 = c.if-version-eq1 in rw (ne_eqb _ _ if1.false)
