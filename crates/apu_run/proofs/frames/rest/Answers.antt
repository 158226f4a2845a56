-- What is left to do, with all the channels' clocks still to come, comes to the whole; with each frame less is left. Assumes nothing.
use native.Mathlib.Omega.{arith}
use mathlib.Core.Path.{◌∙◌}
use Rattle.clocks.proofs.Distances.{kept_below, after_below}
use Rattle.apu_run.proofs.Resting.{resting_first, resting_on, resting_last, due_some, out_long, silent_room, last_room}
use Rattle.apu_run.proofs.frames.rest.Goals as goal

pub until-due-requires : goal.until-due-requires
until-due-requires c =
    let units_of = c.units_of-units in
    rw units_of.ensures (kept_below _ c.requires.floats_held.counter)

pub loop-due-init : goal.loop-due-init
loop-due-init c =
    let until = c.until-due in
    let units_of = c.units_of-units in
    let pre = c.requires in
    resting_first pre.unit_value pre.held pre.floats_held units_of.ensures until.ensures pre.count_bound pre.unit_in_bounds

pub put_silence-requires : goal.put_silence-requires
put_silence-requires c =
    let loop-test = c.loop-due-test in
    let loop = c.loop-due in
    silent_room loop.invariant loop-test.true

pub overflow_add-at : goal.overflow_add-at
overflow_add-at c =
    let loop-test = c.loop-due-test in
    let loop = c.loop-due in
    omega (arith, silent_room loop.invariant loop-test.true, out_long loop.invariant, c.well_formed)

pub until-due-requires-in-loop-due : goal.until-due-requires-in-loop-due
until-due-requires-in-loop-due c =
    let past-frame = c.past_frame-units in
    let loop = c.loop-due in
    rw (past-frame.ensures, loop.invariant.next) (after_below _ loop.invariant.below)

pub loop-due-smaller : goal.loop-due-smaller
loop-due-smaller c =
    let loop-test = c.loop-due-test in
    let loop = c.loop-due in
    omega (arith, due_some loop.invariant, loop-test.true)

pub loop-due-preserved : goal.loop-due-preserved
loop-due-preserved c =
    let until2 = c.until-due-in-loop-due in
    let past-frame = c.past_frame-units in
    let put-silence = c.put_silence in
    let loop-test = c.loop-due-test in
    let loop = c.loop-due in
    resting_on loop.invariant loop-test.true put-silence.ensures past-frame.ensures until2.ensures

pub shape_of-out : goal.shape_of-out
shape_of-out c =
    let sound-from = c.sound_from in
    let loop = c.loop-due in
    sound-from.auto.out ∙ out_long loop.invariant

pub sound_from-requires-clause-waiting_in_bounds : goal.sound_from-requires-clause-waiting_in_bounds
sound_from-requires-clause-waiting_in_bounds c = last_room c.loop-due.invariant

pub returns : goal.returns
returns c =
    let sound-from = c.sound_from in
    let loop = c.loop-due in
    let both = resting_last loop.invariant sound-from.ensures.value sound-from.ensures.out_after in
    record { value = both.0; out_after = both.1 }
