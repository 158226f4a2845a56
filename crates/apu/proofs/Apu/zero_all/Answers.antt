-- After `at` turns the first `at` registers are zeroed; the ranges are kept by each write. Assumes nothing.
use mathlib.Core.Path.{◌≡◌, refl}
use native.Mathlib.Numerals.{add-one}
use native.Mathlib.Omega.{arith}
use Rattle.apu.specs.Registers.{zeroed}
use Rattle.apu.proofs.Ranges.{zeroed_held}
use Rattle.apu.proofs.Apu.zero_all.Goals as goal

pub loop-at-init : goal.loop-at-init
unfolding zeroed
loop-at-init c = (refl, omega arith)

pub write_sound-next-requires : goal.write_sound-next-requires
unfolding zeroed
write_sound-next-requires c = rw c.loop-at.invariant.0 (zeroed_held c.args.self c.loop-at.at c.requires)

pub overflow_step-at : goal.overflow_step-at
unfolding zeroed
overflow_step-at c = omega arith

pub loop-at-smaller : goal.loop-at-smaller
unfolding zeroed
loop-at-smaller c = omega arith

pub loop-at-preserved : goal.loop-at-preserved
unfolding zeroed
loop-at-preserved c = (rw (c.write_sound-next.ensures, c.loop-at.invariant.0, add-one), omega arith)

pub returns : goal.returns
unfolding zeroed
returns c = let e : c.loop-at.at ≡ 22 = omega arith in rw (c.loop-at.invariant.0, e)
