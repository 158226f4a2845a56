-- Each way out is the case of `finished` that the power picks; the channels keep the ranges that the sequencer asks. Assumes nothing.
use Rattle.ground.specs.Pick.{pick}
use Rattle.apu_clock.specs.Sequencer.{finished}
use Rattle.apu_clock.proofs.Ranges.{channels_held}
use Rattle.apu_clock.proofs.sequencer.finish.Goals as goal

pub clock_sequencer-requires : goal.clock_sequencer-requires
clock_sequencer-requires c = rw c.clock_channels.ensures (channels_held _ c.requires)

pub returns-then-unit : goal.returns-then-unit
unfolding pick finished
returns-then-unit c = rw (c.clock_sequencer.ensures, c.clock_channels.ensures, c.if-unit.true)

pub returns-else-unit : goal.returns-else-unit
unfolding pick finished
returns-else-unit c = rw c.if-unit.false
