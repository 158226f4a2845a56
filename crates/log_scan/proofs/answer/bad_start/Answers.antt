-- The length says whether the two bytes are there, and the rest is their tests. Assumes nothing.
use borrow.Author.Tests.{lt-ltb, le-ltb}
use Rattle.ground.specs.Pick.{pick}
use Rattle.log_scan.specs.Answers.{bad_start}
use Rattle.log_scan.proofs.answer.bad_start.Goals as goal

pub returns-then-log-lt2 : goal.returns-then-log-lt2
unfolding pick bad_start
returns-then-log-lt2 c = rw (lt-ltb _ _ c.if-log-lt2.true)

pub returns : goal.returns
unfolding pick bad_start
returns c = rw (le-ltb _ _ c.if-log-lt2.false)
