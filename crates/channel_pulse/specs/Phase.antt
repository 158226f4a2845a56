-- What the working clocks of a pulse move, taken out of the channel and put back. Assumes nothing.
use Rattle.std.specs.Prelude.{ℕ, ◌+◌, ◌-◌, ◌%◌, ◌≤◌, Bool, eqb}
use Rattle.ground.specs.Pick.{pick}
use Rattle.channel_pulse.specs.With.{with_position, with_timer}
use Rattle.channel_pulse.specs.declared.phase.PulsePhase.{PulsePhase}
use Rattle.channel_pulse.specs.declared.pulse_channel.PulseChannel.{PulseChannel}

-- "Ranges held from the start": pulse timer 0..2047, duty position 0..7
pub record PulsePhaseHeld (t : PulsePhase) : Type 0 where
  pub position : t.sequencer_position ≤ 7
  pub timer : t.frequency_timer ≤ 2047

-- the moving part of a channel
abbrev pub pulse_phase_of : PulseChannel → PulsePhase
pulse_phase_of p = record { sequencer_position = p.sequencer_position; frequency_timer = p.frequency_timer }

-- a channel with another moving part
abbrev pub with_pulse_phase : PulseChannel → PulsePhase → PulseChannel
with_pulse_phase p t = with_timer (with_position p t.sequencer_position) t.frequency_timer

-- a working clock of it, by whether the channel was ever triggered and what its timer reloads to: "A timer at 0 steps its channel and reloads, else loses 1"
unfoldable pub pulse_phase_clocked : Bool → ℕ → PulsePhase → PulsePhase
pulse_phase_clocked triggered reload t =
    pick triggered
    (pick (eqb t.frequency_timer 0)
    (record { sequencer_position = (t.sequencer_position + 1) % 8; frequency_timer = reload })
    (record { sequencer_position = t.sequencer_position; frequency_timer = t.frequency_timer - 1 }))
    t
