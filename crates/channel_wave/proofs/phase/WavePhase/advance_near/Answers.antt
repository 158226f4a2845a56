-- A run of the timer is two clocks of it for each, and the flag tells whether the last one stepped. Assumes nothing.
use native.Mathlib.Omega.{arith}
use mathlib.Core.Path.{◌≡◌}
use Prim.Native.Nat.{ℕ, ◌≤◌}
use Rattle.channel_wave.proofs.Phases.{wave_phase_ran}
use Rattle.channel_wave.proofs.phase.WavePhase.advance_near.Goals as goal

some : (n : ℕ) → 1 ≤ n → n ≡ 0 → ⊥
some n h e = omega arith

pub returns : goal.returns
returns c =
    let a = c.args in
    let run = c.count_near-run in
    wave_phase_ran a.reload a.self a.n run.result c.requires.wave_phase_held (some a.n c.requires.le_n.0) run.ensures.value
