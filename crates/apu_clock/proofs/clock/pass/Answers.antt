-- The rest of the clock is the definition's, on the unit with its counter kept. Assumes nothing.
use Rattle.apu_clock.specs.Clocking.{passed}
use Rattle.apu.proofs.Ranges.{clocks_held}
use Rattle.apu_clock.proofs.clock.pass.Goals as goal

pub finish-requires : goal.finish-requires
unfolding passed
finish-requires c = clocks_held _ c.requires.held _ _ c.requires.half_bound

pub returns : goal.returns
unfolding passed
returns c = rw c.finish.ensures
