-- What the working clocks of the noise move, taken out of the channel and put back. Assumes nothing.
use Rattle.std.specs.Prelude.{ℕ, ◌-◌, ◌≤◌, Bool, eqb}
use Rattle.ground.specs.Pick.{pick}
use Rattle.channel_noise.specs.Noise.{stepped_register}
use Rattle.channel_noise.specs.With.{with_register_and_timer}
use Rattle.channel_noise.specs.declared.phase.NoisePhase.{NoisePhase}
use Rattle.channel_noise.specs.declared.noise_channel.NoiseChannel.{NoiseChannel}

-- "Ranges held from the start": noise timer 0..16383, noise register 0..7FFF
pub record NoisePhaseHeld (h : NoisePhase) : Type 0 where
  pub register : h.feedback_shift_register ≤ 0x7FFF
  pub timer : h.frequency_timer ≤ 16383

-- the moving part of a channel
abbrev pub noise_phase_of : NoiseChannel → NoisePhase
noise_phase_of n = record { feedback_shift_register = n.feedback_shift_register; frequency_timer = n.frequency_timer }

-- a channel with another moving part
abbrev pub with_noise_phase : NoiseChannel → NoisePhase → NoiseChannel
with_noise_phase n h = with_register_and_timer n h.feedback_shift_register h.frequency_timer

-- a working clock of it, by whether the mode is 7-bit and what its timer reloads to: "A timer at 0 steps its channel and reloads, else loses 1"
-- (that the channel's own clock is this: `noise_phase_part` of proofs/Phases.antt)
unfoldable pub noise_phase_clocked : Bool → ℕ → NoisePhase → NoisePhase
noise_phase_clocked narrow reload h =
    pick (eqb h.frequency_timer 0)
    (record { feedback_shift_register = stepped_register h.feedback_shift_register narrow; frequency_timer = reload })
    (record { feedback_shift_register = h.feedback_shift_register; frequency_timer = h.frequency_timer - 1 })
