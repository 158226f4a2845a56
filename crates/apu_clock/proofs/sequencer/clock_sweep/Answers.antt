-- The parts are the definition's, by what the calls ensure. Assumes nothing.
use Rattle.apu_clock.specs.Sequencer.{sweep_clocked}
use Rattle.apu_clock.proofs.sequencer.clock_sweep.Goals as goal

pub returns : goal.returns
unfolding sweep_clocked
returns c = rw c.clock_sweeper-next.ensures
