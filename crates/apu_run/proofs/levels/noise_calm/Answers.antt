-- The two outputs are the definition's. Assumes nothing.
use native.Mathlib.Omega.{arith}
use Rattle.apu_run.specs.FrameSettings.{noise_calm}
use Rattle.apu_run.proofs.levels.noise_calm.Goals as goal

pub calm-requires : goal.calm-requires
calm-requires c = record { timer_bound = omega (arith, c.requires.noise_phase_held.timer); reload_bound = c.requires.reload_bound }

pub returns : goal.returns
unfolding noise_calm
returns c =
    let calm = c.calm in
    let now = c.noise_output-now in
    let next = c.noise_output-next in
    rw (calm.ensures, now.ensures.value, next.ensures.value)
