-- The parts are the definition's, by what the calls ensure. Assumes nothing.
use Rattle.apu.specs.Registers.{ram_written}
use Rattle.apu.proofs.Apu.write_ram.Goals as goal

pub returns : goal.returns
unfolding ram_written
returns c = rw c.write_ram-next.ensures
