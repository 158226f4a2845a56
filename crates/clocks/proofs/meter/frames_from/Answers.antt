-- After `counter` turns meter and frames are those of as many times 16,384 half-clocks; the last call adds what is left of them all. Assumes nothing.
use mathlib.Core.Path.{◌≡◌, ap, ◌∙◌}
use Prim.Native.Nat.{◌+◌, ◌*◌, ◌/◌, ◌%◌}
use native.Mathlib.Omega.{arith}
use Rattle.clocks.specs.Calls.{K}
use Rattle.clocks.specs.Metered.{frames_from}
use Rattle.clocks.proofs.Totals.{begun, held, turn, few}
use Rattle.clocks.proofs.meter.frames_from.Goals as goal

pub loop-init : goal.loop-init
loop-init c = begun _ c.requires

pub calls-metered-requires-clause-held : goal.calls-metered-requires-clause-held
calls-metered-requires-clause-held c = held c.loop.invariant

pub overflow_add-frames : goal.overflow_add-frames
overflow_add-frames c =
    let calls = c.calls-metered in
    let made = few c.loop.invariant 16384 calls.result calls.ensures in
    omega (arith, made, c.ranges.halves)

pub loop-preserved : goal.loop-preserved
loop-preserved c =
    let counted : (c.loop.counter + 1) * 16384 ≡ c.loop.counter * 16384 + 16384 = omega arith in
    rw (counted, c.calls-metered.ensures) (turn c.loop.invariant 16384)

pub calls-requires-clause-held : goal.calls-requires-clause-held
calls-requires-clause-held c = held c.loop.invariant

pub overflow_add-result : goal.overflow_add-result
overflow_add-result c =
    let made = few c.loop.invariant (c.args.halves % 16384) c.calls.result c.calls.ensures in
    omega (arith, made, c.ranges.halves)

pub returns : goal.returns
returns c =
    let halves = c.args.halves in
    let whole : c.loop.counter * 16384 + halves % 16384 ≡ halves = omega arith in
    rw c.calls.ensures ((turn c.loop.invariant (halves % 16384)).frames ∙ ap (frames_from 48 K c.args.meter) whole)
