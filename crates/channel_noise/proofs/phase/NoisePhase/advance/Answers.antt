-- The timer's law: so many steps of the register, none, one or more, and where the timer then stands. Assumes nothing.
use mathlib.Core.Path.{ap, ◌∙◌}
use Rattle.channel_noise.proofs.Steps.{no_step, single_step}
use Rattle.channel_noise.proofs.Phases.{noise_phase_at, noise_phase_ran}
use Rattle.channel_noise.proofs.phase.NoisePhase.advance.Goals as goal

pub returns-then-run-eq0 : goal.returns-then-run-eq0
returns-then-run-eq0 c =
    let counted = c.count_down-run in
    let run = counted.result in
    let a = c.args in
    ap (noise_phase_at run.timer) (no_step a.narrow run.steps _ c.if-run-eq0.true)
    ∙ noise_phase_ran a.narrow a.reload a.self a.n run counted.ensures.value

pub returns-else-run-eq0 : goal.returns-else-run-eq0
returns-else-run-eq0 c =
    let counted = c.count_down-run in
    let run = counted.result in
    let a = c.args in
    let one = c.step_one-once in
    let if1 = c.if-run-le1 in
    ap (noise_phase_at run.timer) (single_step a.narrow run.steps _ _ if1.true c.if-run-eq0.false one.ensures.value)
    ∙ noise_phase_ran a.narrow a.reload a.self a.n run counted.ensures.value

pub returns : goal.returns
returns c =
    let counted = c.count_down-run in
    let run = counted.result in
    let a = c.args in
    ap (noise_phase_at run.timer) c.step_times.ensures
    ∙ noise_phase_ran a.narrow a.reload a.self a.n run counted.ensures.value
