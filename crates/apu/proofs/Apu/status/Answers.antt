-- The five flags are the definition's, by what the calls ensure. Assumes nothing.
use Rattle.apu.specs.Registers.{status_byte}
use Rattle.apu.proofs.Apu.status.Goals as goal

pub returns : goal.returns
unfolding status_byte
returns c =
    rw (
      c.flag-5.ensures.value,
      c.flag-4.ensures.value,
      c.flag-3.ensures.value,
      c.flag-2.ensures.value,
      c.flag.ensures.value,
    )
