-- The parts are the definition's, by what the calls ensure. Assumes nothing.
use Rattle.apu.specs.Registers.{refilled}
use Rattle.apu.proofs.Apu.refill.Goals as goal

pub returns : goal.returns
unfolding refilled
returns c =
    rw (
      c.reset_length_counter-next-4.ensures,
      c.reset_length_counter-next-3.ensures,
      c.reset_length_counter-next-2.ensures,
      c.reset_length_counter-next.ensures,
    )
