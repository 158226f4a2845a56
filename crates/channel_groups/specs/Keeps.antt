-- The law that group.rt asks of a channel: its rules keep its ranges; and the proofs of it for the three. Assumes nothing.
use Rattle.std.specs.Prelude.{ℕ, ◌≤◌, Bool}
use Rattle.std.proofs.Common.{arith}
use Rattle.channel_pulse.proofs.Ranges.{pulse_frequency_held, pulse_on_held, pulse_clocked_held, pulse_triggered_held}
use Rattle.channel_wave.proofs.Ranges.{wave_frequency_held, wave_on_held, wave_clocked_held, wave_triggered_held}
use Rattle.channel_noise.proofs.Ranges.{noise_on_held, noise_clocked_held, noise_triggered_held}
use Rattle.channel_groups.specs.Bits.{high_written}
use Rattle.channel_groups.specs.Groups.{Kind}
use Rattle.channel_groups.specs.PulseGroups as pulse
use Rattle.channel_groups.specs.WaveGroups as wave
use Rattle.channel_groups.specs.NoiseGroups as noise

-- "Ranges held from the start": what the rules make of a channel that holds its ranges holds them again
pub record KeepsRanges {C M : Type 0} (k : Kind C M) : Type 0 where
  pub switched : (c : C) → k.Own c → (on : Bool) → k.Own (k.switched c on)
  pub retuned : (v : ℕ) (c : C) → k.Own c → k.Own (k.retuned v c)
  pub triggered : (m : M) (c : C) → k.Own c → k.Own (k.triggered m c)
  pub clocked : (c : C) → k.Own c → k.Own (k.clocked c)

-- a frequency's bits stay eleven
high_le : (f v : ℕ) → high_written f v ≤ 2047
high_le f v = omega arith

pub pulse_keeps : KeepsRanges pulse.kind
pulse_keeps =
    record {
      switched = pulse_on_held;
      retuned = λ v c h. pulse_frequency_held c h _ (high_le c.frequency v);
      triggered = λ _ c h. pulse_triggered_held c h;
      clocked = pulse_clocked_held;
    }

pub wave_keeps : KeepsRanges wave.kind
wave_keeps =
    record {
      switched = wave_on_held;
      retuned = λ v c h. wave_frequency_held c h _ (high_le c.frequency v);
      triggered = λ dmg c h. wave_triggered_held c h dmg;
      clocked = wave_clocked_held;
    }

pub noise_keeps : KeepsRanges noise.kind
noise_keeps =
    record {
      switched = noise_on_held;
      retuned = λ v c h. h;
      triggered = λ _ c h. noise_triggered_held c h;
      clocked = noise_clocked_held;
    }
