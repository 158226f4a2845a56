-- The parts are the definition's, by what the calls ensure. Assumes nothing.
use Rattle.apu.specs.Registers.{silenced}
use Rattle.apu.proofs.Apu.silence.Goals as goal

pub returns : goal.returns
unfolding silenced
returns c = rw (c.silence-next-4.ensures, c.silence-next-3.ensures, c.silence-next-2.ensures, c.silence-next.ensures)
