-- What is left to do, from where the loop stands, comes to the whole; with each frame less is left. Assumes nothing.
use mathlib.Core.Path.{refl, sym, ◌∙◌, ap}
use native.Mathlib.Omega.{arith}
use borrow.Author.Tests.{le-ltb}
use lib.ListN.{length}
use lib.Seq.{sets}
use Rattle.clocks.proofs.Distances.{after_below}
use Rattle.apu_run.specs.Working.{Take}
use Rattle.apu_run.specs.FrameSettings.{stood_still}
use Rattle.apu_run.specs.Parts.{parts_of}
use Rattle.apu_run.specs.declared.phases.Converters.{Converters}
use Rattle.apu_run.proofs.Moves.{settings_held, phases_held, converters_held}
use Rattle.apu_run.proofs.Rans.{behind_ran}
use Rattle.apu_run.proofs.Running.{running_first, running_on, running_last, whole_ran, due_some, out_long, frame_settings_held, few_clocks}
use Rattle.apu_run.proofs.Running.{Looked, moved-of, moved_held, looked_anew, looked_before, framed_of, framed_known, framed_room}
use Rattle.apu_run.proofs.frames.sound_from.Goals as goal
use Rattle.apu_run.proofs.frames.sound_from.Goals.{then-over-known+else-over, else-over-known}

pub fast_of-fast-requires : goal.fast_of-fast-requires
fast_of-fast-requires c =
    let settings-of = c.settings_of-settings in
    let args = c.args in
    let pre = c.requires in
    rw settings-of.ensures (settings_held args.unit pre.held)

pub loop-known-init : goal.loop-known-init
loop-known-init c =
    let until = c.until-due in
    let converters-of = c.converters_of-converters in
    let phases-of = c.phases_of-phases in
    let frame-settings-of = c.frame_settings_of-frame_settings in
    let settings-of = c.settings_of-settings in
    let args = c.args in
    let pre = c.requires in
    let u = args.unit in
    let room = rw (ap (λ (t : Take). length t.bytes) (behind_ran u args.count args.ahead args.waiting)) at pre.waiting_in_bounds in
    rw (phases-of.ensures, converters-of.ensures, frame-settings-of.ensures, settings-of.ensures)
    (running_first (settings_held u pre.held) refl (phases_held u pre.held) (converters_held u pre.floats_held)
    pre.ahead_bound until.ensures pre.count_bound room)

pub overflow_sub-due : goal.overflow_sub-due
overflow_sub-due c = due_some c.loop-known.invariant

pub overflow_add-clocks : goal.overflow_add-clocks
overflow_add-clocks c =
    let loop = c.loop-known in
    let before = c.min.ensures in
    omega (arith, few_clocks loop.invariant before)

-- ---- the channels looked at anew
pub advance-phases-requires : goal.advance-phases-requires
advance-phases-requires c =
    let before = c.min.ensures in
    let loop = c.loop-known in
    record { phases_held = loop.invariant.phases; settings_held = loop.invariant.held; n_bound = omega (arith, few_clocks loop.invariant before) }

pub shape_of-out-then-over : goal.shape_of-out-then-over
shape_of-out-then-over c =
    let loop = c.loop-known in
    out_long loop.invariant

pub returns-then-over : goal.returns-then-over
returns-then-over c =
    let counter-of = c.counter_of in
    let later = c.later in
    let stand-still = c.stand_still in
    let converters-of2 = c.converters_of in
    let if2 = c.if-over in
    let advance = c.advance-phases in
    let before = c.min.ensures in
    let loop = c.loop-known in
    let converters-of = c.converters_of-converters in
    let phases-of = c.phases_of-phases in
    let frame-settings-of = c.frame_settings_of-frame_settings in
    let settings-of = c.settings_of-settings in
    let a = c.args in
    let moved = moved-of loop.invariant before advance.ensures in
    let same = converters-of2.ensures ∙ sym converters-of.ensures in
    let still = stand-still.ensures ∙ ap (λ (k : Converters). stood_still frame-settings-of.result k loop.converters) same in
    let last = running_last moved if2.true still later.ensures.value counter-of.ensures in
    let all = whole_ran loop.invariant a.unit settings-of.ensures phases-of.ensures converters-of.ensures in
    record {
      value = last.0 ∙ ap (λ (t : Take). parts_of t a.start) all;
      out_after = last.1 ∙ ap (λ (t : Take). sets a.out.now a.start t.bytes) all;
    }

pub levels_of-levels-requires : goal.levels_of-levels-requires
levels_of-levels-requires c =
    let advance = c.advance-phases in
    let before = c.min.ensures in
    let loop = c.loop-known in
    let moved = moved-of loop.invariant before advance.ensures in
    record { frame_settings_held = frame_settings_held loop.invariant; phases_held = moved_held moved }

pub known_of-known-requires : goal.known_of-known-requires
known_of-known-requires c =
    let advance = c.advance-phases in
    let before = c.min.ensures in
    let loop = c.loop-known in
    let moved = moved-of loop.invariant before advance.ensures in
    record { settings_held = loop.invariant.held; phases_held = moved_held moved }

-- ---- a frame
pub put_mix-requires : goal.put_mix-requires
put_mix-requires c =
    let step-frame = c.step_frame-step in
    let if1 = c.if-over-known in
    let before = c.min.ensures in
    let loop = c.loop-known in
    let fast-of = c.fast_of-fast in
    let looked : Looked _ _ if1.phases if1.pending if1.levels if1.known =
    elim if1.branch [
      | then-over-known+else-over w ↦
          looked_anew fast-of.result (moved-of loop.invariant before w.advance-phases.ensures) (le-ltb _ _ w.if-over.false)
          w.levels_of-levels.ensures w.known_of-known.ensures w.phases-is w.pending-is w.levels-is w.known-is
      | else-over-known w ↦
          looked_before loop.invariant before w.if-over-known.false w.phases-is w.pending-is w.levels-is w.known-is
    ] in
    let framed = framed_of looked step-frame.ensures in
    record { frame_length_in_bounds = framed_room framed; known = framed_known framed }

pub overflow_add-at : goal.overflow_add-at
overflow_add-at c =
    let step-frame = c.step_frame-step in
    let if1 = c.if-over-known in
    let before = c.min.ensures in
    let loop = c.loop-known in
    let fast-of = c.fast_of-fast in
    let good = c.well_formed in
    let looked : Looked _ _ if1.phases if1.pending if1.levels if1.known =
    elim if1.branch [
      | then-over-known+else-over w ↦
          looked_anew fast-of.result (moved-of loop.invariant before w.advance-phases.ensures) (le-ltb _ _ w.if-over.false)
          w.levels_of-levels.ensures w.known_of-known.ensures w.phases-is w.pending-is w.levels-is w.known-is
      | else-over-known w ↦
          looked_before loop.invariant before w.if-over-known.false w.phases-is w.pending-is w.levels-is w.known-is
    ] in
    let framed = framed_of looked step-frame.ensures in
    omega (arith, framed_room framed, out_long loop.invariant, good)

pub overflow_sub-left : goal.overflow_sub-left
overflow_sub-left c =
    let if1 = c.if-over-known in
    let before = c.min.ensures in
    let loop = c.loop-known in
    let fast-of = c.fast_of-fast in
    let looked : Looked _ _ if1.phases if1.pending if1.levels if1.known =
    elim if1.branch [
      | then-over-known+else-over w ↦
          looked_anew fast-of.result (moved-of loop.invariant before w.advance-phases.ensures) (le-ltb _ _ w.if-over.false)
          w.levels_of-levels.ensures w.known_of-known.ensures w.phases-is w.pending-is w.levels-is w.known-is
      | else-over-known w ↦
          looked_before loop.invariant before w.if-over-known.false w.phases-is w.pending-is w.levels-is w.known-is
    ] in
    looked.due

pub overflow_add-pending : goal.overflow_add-pending
overflow_add-pending c =
    let if1 = c.if-over-known in
    let before = c.min.ensures in
    let loop = c.loop-known in
    let fast-of = c.fast_of-fast in
    let looked : Looked _ _ if1.phases if1.pending if1.levels if1.known =
    elim if1.branch [
      | then-over-known+else-over w ↦
          looked_anew fast-of.result (moved-of loop.invariant before w.advance-phases.ensures) (le-ltb _ _ w.if-over.false)
          w.levels_of-levels.ensures w.known_of-known.ensures w.phases-is w.pending-is w.levels-is w.known-is
      | else-over-known w ↦
          looked_before loop.invariant before w.if-over-known.false w.phases-is w.pending-is w.levels-is w.known-is
    ] in
    omega (arith, looked.few, few_clocks loop.invariant refl)

pub until-due-requires-in-loop-known : goal.until-due-requires-in-loop-known
until-due-requires-in-loop-known c =
    let past-frame = c.past_frame-units in
    let loop = c.loop-known in
    rw (past-frame.ensures, loop.invariant.next) (after_below _ loop.invariant.below)

pub loop-known-smaller : goal.loop-known-smaller
loop-known-smaller c =
    let if1 = c.if-over-known in
    let before = c.min.ensures in
    let loop = c.loop-known in
    let fast-of = c.fast_of-fast in
    let looked : Looked _ _ if1.phases if1.pending if1.levels if1.known =
    elim if1.branch [
      | then-over-known+else-over w ↦
          looked_anew fast-of.result (moved-of loop.invariant before w.advance-phases.ensures) (le-ltb _ _ w.if-over.false)
          w.levels_of-levels.ensures w.known_of-known.ensures w.phases-is w.pending-is w.levels-is w.known-is
      | else-over-known w ↦
          looked_before loop.invariant before w.if-over-known.false w.phases-is w.pending-is w.levels-is w.known-is
    ] in
    omega (arith, due_some loop.invariant, looked.due)

pub loop-known-preserved : goal.loop-known-preserved
loop-known-preserved c =
    let past-frame = c.past_frame-units in
    let put-mix = c.put_mix in
    let step-frame = c.step_frame-step in
    let if1 = c.if-over-known in
    let before = c.min.ensures in
    let loop = c.loop-known in
    let fast-of = c.fast_of-fast in
    let until2 = c.until-due-in-loop-known in
    let looked : Looked _ _ if1.phases if1.pending if1.levels if1.known =
    elim if1.branch [
      | then-over-known+else-over w ↦
          looked_anew fast-of.result (moved-of loop.invariant before w.advance-phases.ensures) (le-ltb _ _ w.if-over.false)
          w.levels_of-levels.ensures w.known_of-known.ensures w.phases-is w.pending-is w.levels-is w.known-is
      | else-over-known w ↦
          looked_before loop.invariant before w.if-over-known.false w.phases-is w.pending-is w.levels-is w.known-is
    ] in
    running_on looked step-frame.ensures put-mix.ensures past-frame.ensures until2.ensures
