-- The shift by at most 7 is the definition's division, and its lowest bit times the volume. Assumes nothing.
use native.Mathlib.Omega.{arith}
use mathlib.Core.Path.{refl}
use Prim.Native.Nat.{◌-◌, ◌/◌, ◌%◌, ◌^◌}
use Rattle.apu_run.specs.FrameSettings.{pulse_output}
use Rattle.apu_run.proofs.FrameSteps.{bit_most}
use Rattle.apu_run.proofs.levels.pulse_output.Goals as goal

pub overflow_mul-result : goal.overflow_mul-result
overflow_mul-result c = let a = c.args in omega (arith, bit_most (a.row / 2 ^ (7 - a.position) % 2) a.volume (omega arith) c.requires.volume_bound)

pub returns : goal.returns
unfolding pulse_output
returns c = let a = c.args in record { value = refl; upper_bound = bit_most (a.row / 2 ^ (7 - a.position) % 2) a.volume (omega arith) c.requires.volume_bound }
