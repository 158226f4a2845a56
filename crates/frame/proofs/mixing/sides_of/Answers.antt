-- The two numbers are the definition's, by what the two calls ensure. Assumes nothing.
use Rattle.frame.specs.Mixing.{sides_of}
use Rattle.frame.proofs.mixing.sides_of.Goals as goal

pub returns : goal.returns
unfolding sides_of
returns c = rw (c.side_of-2.ensures, c.side_of.ensures)
