-- Each way out is the case of `stepped` that the test picks. Assumes nothing.
use Rattle.frame.specs.Converter.{stepped}
use Rattle.frame.proofs.converter.Converter.dac_output.Goals as goal

pub returns-then-muted : goal.returns-then-muted
unfolding stepped
returns-then-muted c = rw c.if-muted.true

pub returns : goal.returns
unfolding stepped
returns c = rw c.if-muted.false
