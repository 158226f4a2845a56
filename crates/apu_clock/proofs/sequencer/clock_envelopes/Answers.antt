-- The parts are the definition's, by what the calls ensure. Assumes nothing.
use Rattle.apu_clock.specs.Sequencer.{envelopes_clocked}
use Rattle.apu_clock.proofs.sequencer.clock_envelopes.Goals as goal

pub returns : goal.returns
unfolding envelopes_clocked
returns c = rw (c.clock_envelope-next-3.ensures, c.clock_envelope-next-2.ensures, c.clock_envelope-next.ensures)
