-- Three stores in a row are a run of stores, where there is room for three. Assumes nothing.
use borrow.Author.Tests.{le-leb, lt-leb}
use Rattle.ground.specs.Pick.{pick}
use Rattle.log_scan.specs.Answers.{counts_after}
use Rattle.log_scan.proofs.answer.put_counts.Goals as goal

pub returns-then-counts-ge3 : goal.returns-then-counts-ge3
unfolding pick counts_after
returns-then-counts-ge3 g c = rw (c.in-Ok.is, le-leb _ _ c.if-counts-ge3.true)

pub returns-else-counts-ge3 : goal.returns-else-counts-ge3
unfolding pick counts_after
returns-else-counts-ge3 g c = rw (c.in-Ok.is, lt-leb _ _ c.if-counts-ge3.false)

pub returns-in_default : goal.returns-in_default
unfolding pick counts_after
returns-in_default g c = rw c.in_default.is
