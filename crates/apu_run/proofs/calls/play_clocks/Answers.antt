-- At every turn what is owed and the calls still to come make what all calls make from the start; their number falls. Assumes nothing.
use native.Mathlib.Omega.{arith}
use Prim.Native.Nat.{ℕ, ◌+◌, ◌-◌, ◌≤◌}
use mathlib.Core.Path.{◌≡◌, ◌∙◌}
use Rattle.apu_run.proofs.Playing.{ended}
use Rattle.apu_run.proofs.Turns.{meets}
use Rattle.apu_run.proofs.Owing.{owing, last, turn_on, falls, turn_fell, owed_few}
use Rattle.apu_run.proofs.calls.play_clocks.Goals as goal

calls : (to i some : ℕ) → some ≤ to - i → to - i ≡ some + (to - (i + some))
calls to i some l = omega arith

pub loop-i-init : goal.loop-i-init
loop-i-init c =
    let pre = c.requires in
    owing (record { held = pre.held; floats = pre.floats_held }) pre.from_bound pre.apu_in_bounds

pub meet-met-requires : goal.meet-met-requires
meet-met-requires c =
    let inv = c.loop-i.invariant in
    record { half_bound = inv.going.ready.held.clocks; count_bound = omega (arith, inv.left, c.same_bit-some.ensures.lower_bound.1) }

pub fall-q-requires : goal.fall-q-requires
fall-q-requires c =
    let inv = c.loop-i.invariant in
    let stretch = c.same_bit-some.ensures in
    let bit = c.sequencer_bit-bit.ensures in
    let met = meets (calls _ _ _ stretch.lower_bound.1) stretch.one_bit c.divider_at.ensures bit c.meet-met.ensures in
    let down = falls inv met c.if-met.true in
    record { held = down.ready.held; floats_held = down.ready.floats; owed_bound = omega (arith, inv.few); apu_in_bounds = down.room }

pub overflow_sub-owed : goal.overflow_sub-owed
overflow_sub-owed c =
    let inv = c.loop-i.invariant in
    let stretch = c.same_bit-some.ensures in
    let bit = c.sequencer_bit-bit.ensures in
    let met = meets (calls _ _ _ stretch.lower_bound.1) stretch.one_bit c.divider_at.ensures bit c.meet-met.ensures in
    let fell = c.if-met.true in
    (falls inv met fell).count

pub loop-i-preserved-then-met : goal.loop-i-preserved-then-met
loop-i-preserved-then-met c =
    let inv = c.loop-i.invariant in
    let stretch = c.same_bit-some.ensures in
    let bit = c.sequencer_bit-bit.ensures in
    let met = meets (calls _ _ _ stretch.lower_bound.1) stretch.one_bit c.divider_at.ensures bit c.meet-met.ensures in
    let fell = c.fall-q.ensures in
    let taken = c.if-met.true in
    rw (fell.value, fell.out_after) (turn_fell inv met taken)

pub overflow_add-owed-else-met : goal.overflow_add-owed-else-met
overflow_add-owed-else-met c =
    let inv = c.loop-i.invariant in
    let stretch = c.same_bit-some.ensures in
    let bit = c.sequencer_bit-bit.ensures in
    let met = meets (calls _ _ _ stretch.lower_bound.1) stretch.one_bit c.divider_at.ensures bit c.meet-met.ensures in
    omega (arith, owed_few inv met)

pub loop-i-preserved : goal.loop-i-preserved
loop-i-preserved c =
    let inv = c.loop-i.invariant in
    let stretch = c.same_bit-some.ensures in
    let bit = c.sequencer_bit-bit.ensures in
    let met = meets (calls _ _ _ stretch.lower_bound.1) stretch.one_bit c.divider_at.ensures bit c.meet-met.ensures in
    turn_on inv met c.if-met.false

pub settle-requires : goal.settle-requires
settle-requires c =
    let inv = c.loop-i.invariant in
    let end = last inv (omega arith) in
    record { held = end.ready.held; floats_held = end.ready.floats; owed_bound = omega (arith, inv.few); apu_in_bounds = end.room }

pub shape_of-out : goal.shape_of-out
shape_of-out c = c.settle.auto.out ∙ c.loop-i.invariant.going.same

pub returns : goal.returns
returns c =
    let ran = c.settle.ensures in
    let end = last c.loop-i.invariant (omega arith) in
    let all = ended end _ _ ran.value ran.out_after in
    record { value = all.0; out_after = all.1; still_held = ran.still_held }
