-- The outputs are the definition's, by what the calls ensure. Assumes nothing.
use Rattle.apu.specs.Registers.{pcm34_of}
use Rattle.apu.proofs.Apu.read_pcm34.Goals as goal

pub returns : goal.returns
unfolding pcm34_of
returns c = rw (c.output-2.ensures, c.output.ensures)
