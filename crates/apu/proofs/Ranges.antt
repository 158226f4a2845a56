-- The ranges hold of both constructors' units, and what the rules make of a unit that holds them holds them again. Assumes nothing.
use mathlib.Core.Path.{refl}
use mathlib.Core.Bool.{Bool, true, false}
use Prim.Native.Nat.{ℕ, zero, suc, ◌-◌, ◌%◌, ◌≤◌}
use native.Mathlib.Omega.{arith}
use lib.Dec.{lit≤}
use lib.IntN.{ℤ}
use Rattle.ground.proofs.Cases.{both_ways}
use Rattle.channel_parts.proofs.Ranges.{envelope_written_held, length_written_held, length_fresh_held}
use Rattle.channel_pulse.specs.Pulse as channel
use Rattle.channel_pulse.proofs.Ranges.{pulse_fresh_held, pulse_envelope_held, pulse_duty_held, pulse_on_held}
use Rattle.channel_groups.specs.PulseGroups as pulse
use Rattle.channel_groups.specs.WaveGroups as wave
use Rattle.channel_groups.specs.NoiseGroups as noise
use Rattle.channel_groups.specs.PulseGroups.{PulseGroup}
use Rattle.channel_groups.specs.WaveGroups.{WaveGroup}
use Rattle.channel_groups.specs.NoiseGroups.{NoiseGroup}
use Rattle.channel_groups.proofs.Ranges.{pulse_group_fresh_held, wave_group_fresh_held, noise_group_fresh_held}
use Rattle.channel_groups.specs.Keeps.{pulse_keeps, wave_keeps, noise_keeps}
use Rattle.channel_groups.proofs.Ranges as group
use Rattle.clocks.specs.Position.{PositionHeld}
use Rattle.apu.specs.Held.{Held}
use Rattle.apu.specs.With.{with_pulse1, with_pulse2, with_wave, with_noise, with_groups}
use Rattle.apu.specs.With.{with_unit_registers, with_timing, with_clocks, with_bit, with_position}
use Rattle.apu.specs.Start as start
use Rattle.apu.specs.Registers.{sound_written, gated_written, ram_written, power_written, written_at, write_of}
use Rattle.apu.specs.Registers.{zeroed, silenced, powered_off, restarted, refilled, powered_on}
use Rattle.apu.specs.declared.Apu.{Apu}
use Rattle.apu.proofs.Offsets.{of_each}
use Rattle.apu.specs.declared.registers.Written.{Written}
use lib.Ieee.{Float}

-- ---- the constructors
pub new_held : (dmg : Bool) → Held (start.fresh dmg)
unfolding start.fresh
new_held dmg =
    record {
      pulse1 = pulse_group_fresh_held;
      pulse2 = pulse_group_fresh_held;
      wave = wave_group_fresh_held;
      noise = noise_group_fresh_held;
      position = omega arith;
      clocks = omega arith;
    }

booted_held : pulse.Held (start.booted pulse.fresh)
booted_held =
    let envelope = envelope_written_held (channel.fresh).envelope 0xF3 (lit≤ tt) in
    record {
      length = pulse_group_fresh_held.length;
      channel = pulse_on_held _ (pulse_duty_held _ (pulse_envelope_held channel.fresh pulse_fresh_held _ envelope) 2) true;
    }

pub skipped_held : (dmg : Bool) → Held (start.skipped dmg)
unfolding start.skipped start.fresh
skipped_held dmg =
    record {
      pulse1 = booted_held;
      pulse2 = pulse_group_fresh_held;
      wave = wave_group_fresh_held;
      noise = record { length = length_written_held 64 _ (length_fresh_held 64) 0x3F; channel = noise_group_fresh_held.channel };
      position = omega arith;
      clocks = omega arith;
    }

-- ---- a row of fields written anew
module _ (a : Apu) (h : Held a) where
  pub groups_held : (p q : PulseGroup) (w : WaveGroup) (n : NoiseGroup) → pulse.Held p → pulse.Held q → wave.Held w → noise.Held n
      → Held (with_groups a p q w n)
  groups_held p q w n hp hq hw hn = record { pulse1 = hp; pulse2 = hq; wave = hw; noise = hn; position = h.position; clocks = h.clocks }

  unit_registers_held : (control selection : ℕ) (on : Bool) → Held (with_unit_registers a control selection on)
  unit_registers_held control selection on =
      record { pulse1 = h.pulse1; pulse2 = h.pulse2; wave = h.wave; noise = h.noise; position = h.position; clocks = h.clocks }

  timing_held : (counter : Float) (bit : Bool) (z : ℤ) (half : ℕ) → PositionHeld z → half ≤ 1 → Held (with_timing a counter bit z half)
  timing_held counter bit z half k l = record { pulse1 = h.pulse1; pulse2 = h.pulse2; wave = h.wave; noise = h.noise; position = k; clocks = l }

  -- ---- and one field of a row
  pub pulse1_held : (g : PulseGroup) → pulse.Held g → Held (with_pulse1 a g)
  pulse1_held g k = groups_held g _ _ _ k h.pulse2 h.wave h.noise

  pulse2_held : (g : PulseGroup) → pulse.Held g → Held (with_pulse2 a g)
  pulse2_held g k = groups_held _ g _ _ h.pulse1 k h.wave h.noise

  wave_held : (g : WaveGroup) → wave.Held g → Held (with_wave a g)
  wave_held g k = groups_held _ _ g _ h.pulse1 h.pulse2 k h.noise

  noise_held : (g : NoiseGroup) → noise.Held g → Held (with_noise a g)
  noise_held g k = groups_held _ _ _ g h.pulse1 h.pulse2 h.wave k

  pub clocks_held : (counter : Float) (half : ℕ) → half ≤ 1 → Held (with_clocks a counter half)
  clocks_held counter half k = timing_held counter _ _ half h.position k

  pub bit_held : (bit : Bool) → Held (with_bit a bit)
  bit_held bit = timing_held _ bit _ _ h.position h.clocks

  pub position_held : (z : ℤ) → PositionHeld z → Held (with_position a z)
  position_held z k = timing_held _ _ z _ k h.clocks

-- ---- writes and power
pub sound_held : (a : Apu) (at v : ℕ) → v ≤ 255 → Held a → Held (sound_written a at v)
unfolding sound_written
sound_held a at v k h =
    of_each at _ Held
    (pulse1_held a h _ (group.pulse_sweep_group_held a.pulse1 h.pulse1 v))
    (pulse1_held a h _ (group.pulse_written_held a.pulse1 at a.power _ v k h.pulse1))
    (pulse2_held a h _ (group.pulse_written_held a.pulse2 (at - 5) a.power _ v k h.pulse2))
    (wave_held a h _ (group.wave_written_held a.wave (at - 10) a.is_dmg _ v k h.wave))
    (noise_held a h _ (group.noise_written_group_held a.noise (at - 15) _ v k h.noise))
    (both_ways Held _ (unit_registers_held a h v _ _) (unit_registers_held a h _ v _))

gated_held : (a : Apu) (at v : ℕ) → v ≤ 255 → Held a → Held (gated_written a at v)
unfolding gated_written
gated_held a at v k h = both_ways Held _ (sound_held a at v k h) (both_ways Held _ (sound_held a at v k h) h)

ram_held : (a : Apu) (at v : ℕ) → Held a → Held (ram_written a at v)
unfolding ram_written
ram_held a at v h = wave_held a h _ (group.wave_ram_held a.wave h.wave a.is_dmg (at % 16) v)

pub zeroed_held : (a : Apu) (n : ℕ) → Held a → Held (zeroed a n)
unfolding zeroed
zeroed_held a zero h = h
zeroed_held a (suc n) h = sound_held (zeroed a n) n 0 (lit≤ tt) (zeroed_held a n h)

silenced_held : (a : Apu) → Held a → Held (silenced a)
unfolding silenced
silenced_held a h =
    unit_registers_held _
    (groups_held a h _ _ _ _
    (group.silenced_held pulse_keeps a.pulse1 h.pulse1)
    (group.silenced_held pulse_keeps a.pulse2 h.pulse2)
    (group.silenced_held wave_keeps a.wave h.wave)
    (group.silenced_held noise_keeps a.noise h.noise))
    _ _ false

restarted_held : (a : Apu) → Held a → Held (restarted a)
unfolding restarted
restarted_held a h =
    unit_registers_held _
    (position_held _
    (groups_held a h _ _ _ _
    (group.pulse_rewound_held a.pulse1 h.pulse1)
    (group.pulse_rewound_held a.pulse2 h.pulse2)
    (group.wave_rewound_held a.wave h.wave)
    h.noise)
    _ (both_ways PositionHeld a.divider_sequencer_clock_bit refl (omega arith)))
    _ _ true

refilled_held : (a : Apu) → Held a → Held (refilled a)
unfolding refilled
refilled_held a h =
    groups_held a h _ _ _ _
    (group.refilled_held pulse_keeps a.pulse1 h.pulse1)
    (group.refilled_held pulse_keeps a.pulse2 h.pulse2)
    (group.refilled_held wave_keeps a.wave h.wave)
    (group.refilled_held noise_keeps a.noise h.noise)

power_written_held : (a : Apu) (v : ℕ) → Held a → Held (power_written a v)
unfolding power_written powered_on powered_off
power_written_held a v h =
    both_ways Held _
    (both_ways Held _ h (both_ways Held _ (restarted_held a h) (refilled_held _ (restarted_held a h))))
    (both_ways Held _ (silenced_held _ (zeroed_held a 22 h)) h)

pub written_at_held : (a : Apu) (at v : ℕ) → v ≤ 255 → Held a → Held (written_at a at v)
unfolding written_at
written_at_held a at v k h =
    both_ways Held _ (gated_held a at v k h) (both_ways Held _ (power_written_held a v h) (both_ways Held _ h (ram_held a at v h)))

pub write_held : (a : Apu) (addr v : ℕ) → v ≤ 255 → Held a → Held (write_of a addr v).apu
unfolding write_of
write_held a addr v k h = both_ways (λ (w : Written). Held w.apu) _ (written_at_held a (addr - 0xFF10) v k h) h
