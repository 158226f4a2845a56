-- Each way out is the case of `rewritten` that the index picks. Assumes nothing.
use borrow.Author.Tests.{le-leb, lt-leb}
use Rattle.ground.specs.Pick.{pick}
use Rattle.channel_wave.specs.Wave.{rewritten}
use Rattle.channel_wave.proofs.wave_channel.rewrite.Goals as goal

pub returns-then-index-ge4 : goal.returns-then-index-ge4
unfolding pick rewritten
returns-then-index-ge4 c = rw (c.copy_four.ensures, le-leb _ _ c.if-index-ge4.true)

pub returns : goal.returns
unfolding pick rewritten
returns c = rw (lt-leb _ _ c.if-index-ge4.false)
