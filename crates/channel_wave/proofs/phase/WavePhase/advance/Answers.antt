-- A run of the timer is two clocks of it for each, and the flag tells whether the last one stepped. Assumes nothing.
use native.Mathlib.Omega.{arith}
use Rattle.channel_wave.proofs.Phases.{wave_phase_ran, wave_phase_none}
use Rattle.channel_wave.proofs.phase.WavePhase.advance.Goals as goal

pub returns-then-n-eq0 : goal.returns-then-n-eq0
returns-then-n-eq0 c = rw c.if-n-eq0.true (wave_phase_none c.args.reload c.args.self)

pub overflow_add-result : goal.overflow_add-result
overflow_add-result c =
    let run = c.count_down-run in
    omega (arith, run.ensures.steps_le_n, c.requires.wave_phase_held.position, c.requires.n_bound)

pub returns : goal.returns
returns c =
    let run = c.count_down-run in
    let some = c.if-n-eq0.false in
    let a = c.args in
    wave_phase_ran a.reload a.self a.n run.result c.requires.wave_phase_held some run.ensures.value
