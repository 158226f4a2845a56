-- The parts are the definition's, by what the calls ensure. Assumes nothing.
use Rattle.apu_clock.specs.Sequencer.{lengths_clocked}
use Rattle.apu_clock.proofs.sequencer.clock_lengths.Goals as goal

pub returns : goal.returns
unfolding lengths_clocked
returns c =
    rw (
      c.clock_length_counter-next-4.ensures,
      c.clock_length_counter-next-3.ensures,
      c.clock_length_counter-next-2.ensures,
      c.clock_length_counter-next.ensures,
    )
