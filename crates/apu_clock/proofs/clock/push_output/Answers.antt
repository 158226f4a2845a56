-- Groups and numbers are the definition's, by what the calls ensure. Assumes nothing.
use Rattle.apu_clock.specs.Clocking.{pushed}
use Rattle.apu_clock.proofs.clock.push_output.Goals as goal

pub returns : goal.returns
unfolding pushed
returns c = rw (c.mix_of-mix.ensures, c.sound-n.ensures, c.sound-w.ensures, c.sound-q.ensures, c.sound-p.ensures)
