-- Each way out is the case of `sequenced` that the two bits pick. Assumes nothing.
use Rattle.ground.specs.Pick.{pick}
use Rattle.apu_clock.specs.Sequencer.{sequenced}
use Rattle.apu.proofs.Ranges.{bit_held}
use Rattle.apu_clock.proofs.sequencer.clock_sequencer.Goals as goal

pub advance-requires : goal.advance-requires
unfolding pick sequenced
advance-requires c = bit_held _ c.requires _

pub returns-then-unit-bit : goal.returns-then-unit-bit
unfolding pick sequenced
returns-then-unit-bit c = rw (c.advance.ensures, ← c.sequencer_bit-bit.ensures, c.if-unit-bit.true)

pub returns-else-unit-bit : goal.returns-else-unit-bit
unfolding pick sequenced
returns-else-unit-bit c = rw (← c.sequencer_bit-bit.ensures, c.if-unit-bit.false)
