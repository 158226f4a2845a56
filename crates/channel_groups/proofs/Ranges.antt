-- What the rules make of a group that holds its ranges holds them again: a law for each definition. Assumes nothing.
use mathlib.Core.Bool.{Bool, false}
use Prim.Native.Nat.{ℕ, ◌/◌, ◌%◌, ◌≤◌}
use native.Mathlib.Omega.{arith}
use Rattle.ground.proofs.Cases.{both_ways}
use Rattle.frame.proofs.Ranges.{stepped_held}
use Rattle.frame.specs.Mixing.{voiced}
use Rattle.channel_parts.proofs.Ranges.{envelope_clocked_held, length_fresh_held, length_written_held, length_reset_held, length_clocked_held}
use Rattle.channel_parts.proofs.Ranges.{length_enabling_held, length_triggered_held}
use Rattle.channel_pulse.specs.Pulse as pulse_channel
use Rattle.channel_pulse.proofs.Ranges.{pulse_fresh_held, pulse_duty_held, pulse_envelope_held, pulse_frequency_held, pulse_position_held}
use Rattle.channel_pulse.proofs.Ranges.{pulse_sweep_written_held, pulse_enveloped_held, pulse_sweep_clocked_held}
use Rattle.channel_pulse.proofs.Ranges.{pulse_output_le}
use Rattle.channel_wave.proofs.Ranges.{wave_fresh_held, wave_volume_held, wave_frequency_held, wave_position_held, wave_dac_held}
use Rattle.channel_wave.proofs.Ranges.{wave_stored_held, wave_output_le}
use Rattle.channel_noise.proofs.Ranges.{noise_fresh_held, noise_written_held, noise_envelope_held}
use Rattle.channel_noise.proofs.Ranges.{noise_enveloped_held, noise_output_le}
use Rattle.channel_groups.specs.Bits.{low_written}
use Rattle.channel_groups.specs.Groups as any
use Rattle.channel_groups.specs.Groups.{Kind}
use Rattle.channel_groups.specs.Keeps.{KeepsRanges, pulse_keeps, wave_keeps, noise_keeps}
use Rattle.channel_groups.specs.declared.group.Group.{Group}
use Rattle.channel_groups.specs.PulseGroups as pulse
use Rattle.channel_groups.specs.WaveGroups as wave
use Rattle.channel_groups.specs.NoiseGroups as noise
use Rattle.channel_groups.specs.PulseGroups.{PulseGroup}
use Rattle.channel_groups.specs.WaveGroups.{WaveGroup}
use Rattle.channel_groups.specs.NoiseGroups.{NoiseGroup}

-- a frequency's bits stay eleven
low_le : (f v : ℕ) → f ≤ 2047 → v ≤ 255 → low_written f v ≤ 2047
low_le f v h k = omega arith

-- ---- what is alike for every kind of group
module _ {C M : Type 0} {k : Kind C M} {most : ℕ} (keeps : KeepsRanges k) (g : Group C) (h : any.Held k most g) where
  pub length_clock_held : any.Held k most (any.length_clocked k g)
  unfolding any.length_clocked
  length_clock_held = record { length = length_clocked_held most g.length h.length; channel = keeps.switched _ h.channel _ }

  pub readied_held : (even : Bool) (v : ℕ) → any.Held k most (any.readied k g even v)
  unfolding any.readied
  readied_held even v =
      record { length = length_enabling_held most g.length _ even h.length; channel = keeps.switched _ (keeps.retuned v _ h.channel) _ }

  pub triggered_held : (model : M) (even : Bool) → any.Held k most (any.triggered k g model even)
  unfolding any.triggered
  triggered_held model even =
      record { length = length_triggered_held most g.length h.length even; channel = keeps.triggered model _ h.channel }

  pub clocked_held : any.Held k most (any.clocked k g)
  unfolding any.clocked
  clocked_held = record { length = h.length; channel = keeps.clocked _ h.channel }

  pub refilled_held : any.Held k most (any.refilled g)
  unfolding any.refilled
  refilled_held = record { length = length_reset_held most g.length h.length; channel = h.channel }

  pub silenced_held : any.Held k most (any.silenced k g)
  unfolding any.silenced
  silenced_held = record { length = h.length; channel = keeps.switched _ h.channel false }

  pub sounded_held : (control selection number : ℕ) → any.Held k most (any.sounded k g control selection number).group
  unfolding any.sounded
  sounded_held control selection number = record { length = h.length; channel = h.channel }

controlled_held : {C M : Type 0} {k : Kind C M} {most : ℕ} → KeepsRanges k
    → (g : Group C) (model : M) (even : Bool) (v : ℕ) → any.Held k most g → any.Held k most (any.controlled k g model even v)
unfolding any.controlled
controlled_held keeps g model even v h =
    let ready = readied_held keeps g h even v in
    both_ways (any.Held _ _) _ (triggered_held keeps _ ready model even) ready

-- ---- a pulse
pub pulse_group_fresh_held : pulse.Held pulse.fresh
pulse_group_fresh_held = record { length = length_fresh_held 64; channel = pulse_fresh_held }

module _ (g : PulseGroup) (h : pulse.Held g) where
  pub pulse_sweep_group_held : (v : ℕ) → pulse.Held (pulse.sweep_written g v)
  unfolding pulse.sweep_written
  pulse_sweep_group_held v = record { length = h.length; channel = pulse_sweep_written_held g.channel v h.channel }

  pulse_length_held : (power : Bool) (v : ℕ) → pulse.Held (pulse.length_written g power v)
  unfolding pulse.length_written
  pulse_length_held power v =
      record {
        length = length_written_held 64 g.length h.length (v % 64);
        channel = both_ways pulse_channel.Held power (pulse_duty_held g.channel h.channel (v / 64)) h.channel;
      }

  pulse_envelope_written_held : (v : ℕ) → v ≤ 255 → pulse.Held (pulse.envelope_written g v)
  unfolding pulse.envelope_written
  pulse_envelope_written_held v k = record { length = h.length; channel = pulse_enveloped_held g.channel v k h.channel }

  pulse_tuned_held : (v : ℕ) → v ≤ 255 → pulse.Held (pulse.tuned g v)
  unfolding pulse.tuned
  pulse_tuned_held v k =
      record {
        length = h.length;
        channel = pulse_frequency_held g.channel h.channel _ (low_le g.channel.frequency v h.channel.frequency k);
      }

  pub pulse_sweep_clock_held : pulse.Held (pulse.sweep_clocked g)
  unfolding pulse.sweep_clocked
  pulse_sweep_clock_held = record { length = h.length; channel = pulse_sweep_clocked_held g.channel h.channel }

  pub pulse_envelope_clock_held : pulse.Held (pulse.envelope_clocked g)
  unfolding pulse.envelope_clocked
  pulse_envelope_clock_held =
      record {
        length = h.length;
        channel = pulse_envelope_held g.channel h.channel _ (envelope_clocked_held g.channel.envelope h.channel.envelope);
      }

  pub pulse_rewound_held : pulse.Held (pulse.rewound g)
  unfolding pulse.rewound
  pulse_rewound_held = record { length = h.length; channel = pulse_position_held g.channel h.channel 0 (omega arith) }

  pub pulse_sounded_float : (control selection number : ℕ) → pulse.FloatHeld g → pulse.FloatHeld (pulse.sounded g control selection number).group
  unfolding any.sounded voiced
  pulse_sounded_float control selection number k = stepped_held g.converter _ _ (pulse_output_le g.channel h.channel) k

pub pulse_written_held : (g : PulseGroup) (at : ℕ) (power even : Bool) (v : ℕ) → v ≤ 255 → pulse.Held g → pulse.Held (pulse.written g at power even v)
unfolding pulse.written
pulse_written_held g at power even v k h =
    both_ways pulse.Held _ (pulse_length_held g h power v)
    (both_ways pulse.Held _ (pulse_envelope_written_held g h v k)
    (both_ways pulse.Held _ (pulse_tuned_held g h v k)
    (both_ways pulse.Held _ (controlled_held pulse_keeps g _ even v h) h)))

-- ---- the wave
pub wave_group_fresh_held : wave.Held wave.fresh
wave_group_fresh_held = record { length = length_fresh_held 256; channel = wave_fresh_held }

module _ (g : WaveGroup) (h : wave.Held g) where
  wave_dac_written_held : (v : ℕ) → wave.Held (wave.dac_written g v)
  unfolding wave.dac_written
  wave_dac_written_held v = record { length = h.length; channel = wave_dac_held g.channel h.channel _ }

  wave_length_held : (v : ℕ) → wave.Held (wave.length_written g v)
  unfolding wave.length_written
  wave_length_held v = record { length = length_written_held 256 g.length h.length v; channel = h.channel }

  wave_volume_written_held : (v : ℕ) → wave.Held (wave.volume_written g v)
  unfolding wave.volume_written
  wave_volume_written_held v = record { length = h.length; channel = wave_volume_held g.channel h.channel (v / 32) }

  wave_tuned_held : (v : ℕ) → v ≤ 255 → wave.Held (wave.tuned g v)
  unfolding wave.tuned
  wave_tuned_held v k =
      record {
        length = h.length;
        channel = wave_frequency_held g.channel h.channel _ (low_le g.channel.frequency v h.channel.frequency k);
      }

  pub wave_ram_held : (dmg : Bool) (offset v : ℕ) → wave.Held (wave.ram_written g dmg offset v)
  unfolding wave.ram_written
  wave_ram_held dmg offset v = record { length = h.length; channel = wave_stored_held g.channel h.channel dmg offset v }

  pub wave_rewound_held : wave.Held (wave.rewound g)
  unfolding wave.rewound
  wave_rewound_held = record { length = h.length; channel = wave_position_held g.channel h.channel }

  pub wave_sounded_float : (control selection : ℕ) → wave.FloatHeld g → wave.FloatHeld (wave.sounded g control selection).group
  unfolding any.sounded voiced
  wave_sounded_float control selection k = stepped_held g.converter _ _ (wave_output_le g.channel) k

pub wave_written_held : (g : WaveGroup) (at : ℕ) (dmg even : Bool) (v : ℕ) → v ≤ 255 → wave.Held g → wave.Held (wave.written g at dmg even v)
unfolding wave.written
wave_written_held g at dmg even v k h =
    both_ways wave.Held _ (wave_dac_written_held g h v)
    (both_ways wave.Held _ (wave_length_held g h v)
    (both_ways wave.Held _ (wave_volume_written_held g h v)
    (both_ways wave.Held _ (wave_tuned_held g h v k)
    (both_ways wave.Held _ (controlled_held wave_keeps g dmg even v h) h))))

-- ---- the noise
pub noise_group_fresh_held : noise.Held noise.fresh
noise_group_fresh_held = record { length = length_fresh_held 64; channel = noise_fresh_held }

module _ (g : NoiseGroup) (h : noise.Held g) where
  pub noise_length_held : (v : ℕ) → noise.Held (noise.length_written g v)
  unfolding noise.length_written
  noise_length_held v = record { length = length_written_held 64 g.length h.length (v % 64); channel = h.channel }

  noise_envelope_written_held : (v : ℕ) → v ≤ 255 → noise.Held (noise.envelope_written g v)
  unfolding noise.envelope_written
  noise_envelope_written_held v k = record { length = h.length; channel = noise_enveloped_held g.channel v k h.channel }

  noise_set_held : (v : ℕ) → v ≤ 255 → noise.Held (noise.noise_written g v)
  unfolding noise.noise_written
  noise_set_held v k = record { length = h.length; channel = noise_written_held g.channel h.channel v k }

  pub noise_envelope_clock_held : noise.Held (noise.envelope_clocked g)
  unfolding noise.envelope_clocked
  noise_envelope_clock_held =
      record {
        length = h.length;
        channel = noise_envelope_held g.channel h.channel _ (envelope_clocked_held g.channel.envelope h.channel.envelope);
      }

  pub noise_sounded_float : (control selection : ℕ) → noise.FloatHeld g → noise.FloatHeld (noise.sounded g control selection).group
  unfolding any.sounded voiced
  noise_sounded_float control selection k = stepped_held g.converter _ _ (noise_output_le g.channel h.channel) k

pub noise_written_group_held : (g : NoiseGroup) (at : ℕ) (even : Bool) (v : ℕ) → v ≤ 255 → noise.Held g → noise.Held (noise.written g at even v)
unfolding noise.written
noise_written_group_held g at even v k h =
    both_ways noise.Held _ (noise_length_held g h v)
    (both_ways noise.Held _ (noise_envelope_written_held g h v k)
    (both_ways noise.Held _ (noise_set_held g h v k)
    (both_ways noise.Held _ (controlled_held noise_keeps g _ even v h) h)))
