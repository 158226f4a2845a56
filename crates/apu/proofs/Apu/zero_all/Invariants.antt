-- After `at` turns the first `at` registers are zeroed; the ranges are kept by each write. Assumes nothing.
use Prim.Native.Nat.{◌≤◌, ◌-◌}
use mathlib.Core.Path.{◌≡◌}
use Rattle.apu.specs.Registers.{zeroed}
use Rattle.apu.proofs.Apu.zero_all.Given as goal

abbrev pub invariant-loop-at : goal.invariant-loop-at
invariant-loop-at l = (l.next ≡ zeroed l.initial.next l.at) × (l.at ≤ 22)

abbrev pub decreases-loop-at : goal.decreases-loop-at
decreases-loop-at l = 22 - l.at
