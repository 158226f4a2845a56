-- The outputs are the definition's, by what the calls ensure. Assumes nothing.
use Rattle.apu.specs.Registers.{pcm12_of}
use Rattle.apu.proofs.Apu.read_pcm12.Goals as goal

pub returns : goal.returns
unfolding pcm12_of
returns c = rw (c.output-2.ensures, c.output.ensures)
