-- A unit that is behind by nothing is the unit. Assumes nothing.
use native.Mathlib.Omega.{arith}
use mathlib.Core.Path.{ap, ◌∙◌}
use Prim.Native.Nat.{ℕ}
use Rattle.clocks.proofs.Distances.{kept_below}
use Rattle.apu_run.specs.Parts.{behind}
use Rattle.apu_run.proofs.Rans.{behind_none}
use Rattle.apu_run.proofs.frames.sound.Goals as goal

pub sound_from-requires : goal.sound_from-requires
sound_from-requires c =
    let units_of = c.units_of in
    let pre = c.requires in
    let unit = c.args.unit in
    let same = ap (λ (x : ℕ). behind unit x 0) units_of.ensures ∙ behind_none unit pre.floats_held in
    let kept = kept_below _ pre.floats_held.counter in
    record {
      held = pre.held;
      floats_held = pre.floats_held;
      ahead_bound = rw units_of.ensures kept;
      count_bound = omega (arith, pre.count_bound);
      waiting_in_bounds = rw same pre.unit_in_bounds;
    }

pub returns : goal.returns
returns c =
    let sound-from = c.sound_from in
    let unit = c.args.unit in
    let same = ap (λ (x : ℕ). behind unit x 0) c.units_of.ensures ∙ behind_none unit c.requires.floats_held in
    record { value = rw same at sound-from.ensures.value; out_after = rw same at sound-from.ensures.out_after }
