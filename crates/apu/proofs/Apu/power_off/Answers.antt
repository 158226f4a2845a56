-- All is zeroed, then silenced. Assumes nothing.
use Rattle.apu.specs.Registers.{powered_off}
use Rattle.apu.proofs.Apu.power_off.Goals as goal

pub returns : goal.returns
unfolding powered_off
returns c = rw (c.silence.ensures, c.zero_all.ensures)
