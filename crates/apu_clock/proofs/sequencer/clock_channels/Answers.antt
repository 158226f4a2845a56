-- The parts are the definition's, by what the calls ensure. Assumes nothing.
use Rattle.apu_clock.specs.Sequencer.{channels_clocked}
use Rattle.apu_clock.proofs.sequencer.clock_channels.Goals as goal

pub returns : goal.returns
unfolding channels_clocked
returns c = rw (c.clock-next-4.ensures, c.clock-next-3.ensures, c.clock-next-2.ensures, c.clock-next.ensures)
