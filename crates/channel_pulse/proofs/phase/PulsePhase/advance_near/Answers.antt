-- A run of the timer is so many clocks of it; of a pulse that was never triggered, of none. Assumes nothing.
use mathlib.Core.Path.{ap, ◌∙◌}
use Prim.Native.Nat.{◌+◌}
use Rattle.ground.specs.Timer.{counted_down}
use Rattle.channel_pulse.proofs.Phases.{pulse_phase_either}
use Rattle.channel_pulse.proofs.phase.PulsePhase.advance_near.Goals as goal

pub returns : goal.returns
returns c =
    let a = c.args in
    let run = c.count_near-run in
    let clocks = c.flag.ensures.value in
    pulse_phase_either a.triggered a.self a.reload a.n run.result c.requires.pulse_phase_held
    (run.ensures.value ∙ ap (counted_down a.self.frequency_timer (a.reload + 1)) clocks)
