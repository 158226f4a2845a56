-- Each way out is the case of `side_of` that the test picks. Assumes nothing.
use Rattle.frame.specs.Mixing.{side_of}
use Rattle.frame.proofs.mixing.side_of.Goals as goal

pub returns-then-selected : goal.returns-then-selected
unfolding side_of
returns-then-selected c = rw c.if-selected.true

pub returns : goal.returns
unfolding side_of
returns c = rw c.if-selected.false
