-- Each arm is the case of `taken` that the test picks; the source's literals, which MIR has as bit patterns, are the specification's 1 and N.
-- Assumes nothing.
use mathlib.Core.Path.{◌≡◌, refl}
use lib.Ieee.{binary64, of_bits, round}
use Rattle.clocks.specs.Counter.{f64_one, every_at, tick_by}
use Rattle.clocks.proofs.sample_counter.tick.Goals as goal

one-is : of_bits binary64 0x3ff0_0000_0000_0000 ≡ f64_one
unfolding of_bits
one-is = refl

every-is : of_bits binary64 0x4037_c6f8_c751_f177 ≡ every_at 44100
unfolding of_bits every_at round
every-is = refl

pub returns-then-sum : goal.returns-then-sum
unfolding tick_by
returns-then-sum c = rw (← one-is, ← every-is, c.if-sum.true) refl

pub returns-else-sum : goal.returns-else-sum
unfolding tick_by
returns-else-sum c = rw (← one-is, ← every-is, c.if-sum.false) refl
