-- A run of the timer is so many clocks of it, and a pulse that was never triggered stands still. Assumes nothing.
use native.Mathlib.Omega.{arith}
use mathlib.Core.Path.{sym}
use Rattle.channel_pulse.proofs.Phases.{pulse_phase_ran, pulse_phase_stands}
use Rattle.channel_pulse.proofs.phase.PulsePhase.advance.Goals as goal

pub overflow_add-result : goal.overflow_add-result
overflow_add-result c =
    let run = c.count_down-run in
    omega (arith, run.ensures.steps_le_n, c.requires.pulse_phase_held.position, c.requires.n_bound)

pub returns-then-triggered : goal.returns-then-triggered
returns-then-triggered c =
    let run = c.count_down-run in
    let triggered = c.if-triggered.true in
    let a = c.args in
    rw triggered (pulse_phase_ran a.self a.reload a.n run.result c.requires.pulse_phase_held run.ensures.value)

pub returns : goal.returns
returns c =
    let a = c.args in
    rw c.if-triggered.false (sym (pulse_phase_stands a.reload a.n a.self))
