-- What each register reads as and what a write does, from document 01, "Registers and power". `at` is the address less FF10. Assumes nothing.
use Rattle.std.specs.Prelude.{ℕ, zero, suc, ◌+◌, ◌-◌, ◌*◌, ◌%◌, Bool, true, false, ◌||◌, eqb, ltb, leb, pos, negsuc, Result, Ok, Err}
use Rattle.ground.specs.Pick.{pick}
use Rattle.ground.specs.Num.{is_sound}
use Rattle.channel_pulse.specs.Sweep as sweep
use Rattle.channel_pulse.specs.Pulse as pulse_channel
use Rattle.channel_wave.specs.Wave as wave_channel
use Rattle.channel_noise.specs.Noise as noise_channel
use Rattle.channel_groups.specs.PulseGroups as pulse
use Rattle.channel_groups.specs.WaveGroups as wave
use Rattle.channel_groups.specs.NoiseGroups as noise
use Rattle.clocks.specs.Position.{next_even}
use Rattle.apu.specs.With.{with_pulse1, with_pulse2, with_wave, with_noise, with_groups, with_control, with_selection, with_power, with_position}
use Rattle.apu.specs.declared.Apu.{Apu}
use Rattle.apu.specs.declared.registers.WrongAddress.{WrongAddress}
use Rattle.apu.specs.declared.registers.Written.{Written}

-- ---- which group an offset is in

-- one value for each group of registers
pub record PerGroup (A : Type 0) : Type 0 where
  pub sweep : A  -- FF10
  pub pulse1 : A  -- FF11..FF14
  pub pulse2 : A  -- FF15..FF19
  pub wave : A  -- FF1A..FF1E
  pub noise : A  -- FF1F..FF23
  pub rest : A  -- from FF24 on

-- the offset's own
unfoldable pub by_offset : {A : Type 0} → ℕ → PerGroup A → A
by_offset at each =
    pick (eqb at 0) each.sweep
    (pick (ltb at 5) each.pulse1
    (pick (ltb at 10) each.pulse2
    (pick (ltb at 15) each.wave
    (pick (ltb at 20) each.noise
    each.rest))))

-- ---- reads

-- FF26 reads with the mask 70: bit 7 the power, bits 3 to 0 noise, wave, pulse 2, pulse 1 on
unfoldable pub status_byte : Apu → ℕ
status_byte a =
    0x70 + pick a.power 128 0
    + pick a.noise.channel.channel_enabled 8 0
    + pick a.wave.channel.channel_enable 4 0
    + pick a.pulse2.channel.channel_enabled 2 0
    + pick a.pulse1.channel.channel_enabled 1 0

-- "OR masks on reading, FF10 up": 80 for FF10, the groups' own, none for FF24 and FF25, "FF27..FF2F FF"
unfoldable pub byte_at : Apu → ℕ → ℕ
byte_at a at =
    by_offset at (record {
      sweep = 0x80 + sweep.byte_of a.pulse1.channel.sweep;
      pulse1 = pulse.byte_of a.pulse1 at;
      pulse2 = pulse.byte_of a.pulse2 (at - 5);
      wave = wave.byte_of a.wave (at - 10);
      noise = noise.byte_of a.noise (at - 15);
      rest =
          pick (eqb at 20) a.channels_control
          (pick (eqb at 21) a.channels_selection
          (pick (eqb at 22) (status_byte a)
          (pick (ltb at 32) 0xFF
          (wave_channel.byte_at a.wave.channel a.is_dmg (at % 16)))));
    })

-- a read of any address; refusal 1 outside FF10..FF3F
unfoldable pub read_of : Apu → ℕ → Result ℕ WrongAddress
read_of a addr = pick (is_sound addr) (Ok (byte_at a (addr - 0xFF10))) (Err (record {}))

-- "PCM reads: pulse 2 over pulse 1; noise over wave"
unfoldable pub pcm12_of : Apu → ℕ
pcm12_of a = pulse_channel.output_of a.pulse2.channel % 16 * 16 + pulse_channel.output_of a.pulse1.channel % 16

unfoldable pub pcm34_of : Apu → ℕ
pcm34_of a = noise_channel.output_of a.noise.channel % 16 * 16 + wave_channel.output_of a.wave.channel % 16

-- ---- writes

-- a write of FF10..FF25 that the power does not hold back, to its group alone
unfoldable pub sound_written : Apu → ℕ → ℕ → Apu
sound_written a at value =
    let even = next_even a.sequencer_position in
    by_offset at (record {
      sweep = with_pulse1 a (pulse.sweep_written a.pulse1 value);
      pulse1 = with_pulse1 a (pulse.written a.pulse1 at a.power even value);
      pulse2 = with_pulse2 a (pulse.written a.pulse2 (at - 5) a.power even value);
      wave = with_wave a (wave.written a.wave (at - 10) a.is_dmg even value);
      noise = with_noise a (noise.written a.noise (at - 15) even value);
      rest = pick (eqb at 20) (with_control a value) (with_selection a value);
    })

-- "FF11, FF16, FF1B, FF20", as offsets from FF10
abbrev pub is_length : ℕ → Bool
is_length at = eqb at 1 || (eqb at 6 || (eqb at 11 || eqb at 16))

-- "With power off, of FF10..FF25 only FF11, FF16, FF1B, FF20 take writes"
unfoldable pub gated_written : Apu → ℕ → ℕ → Apu
gated_written a at value = pick a.power (sound_written a at value) (pick (is_length at) (sound_written a at value) a)

-- wave RAM, FF30..FF3F
unfoldable pub ram_written : Apu → ℕ → ℕ → Apu
ram_written a at value = with_wave a (wave.ram_written a.wave a.is_dmg (at % 16) value)

-- ---- power

-- 0 written to the first n registers from FF10 up, in order
unfoldable pub zeroed : Apu → ℕ → Apu
zeroed a zero = a
zeroed a (suc n) = sound_written (zeroed a n) n 0

-- "then all channels go off"; and the power
unfoldable pub silenced : Apu → Apu
silenced a = with_power (with_groups a (pulse.silenced a.pulse1) (pulse.silenced a.pulse2) (wave.silenced a.wave) (noise.silenced a.noise)) false

-- "Power off writes 0 to FF10..FF25 in order, still powered, so lengths become maximal"
unfoldable pub powered_off : Apu → Apu
powered_off a = silenced (zeroed a 22)

-- "Power on puts the sequencer at 0, or -1 if the stored bit is set, duty and wave positions at 0"; and the power on
unfoldable pub restarted : Apu → Apu
restarted a =
    with_power
    (with_position (with_groups a (pulse.rewound a.pulse1) (pulse.rewound a.pulse2) (wave.rewound a.wave) a.noise)
    (pick a.divider_sequencer_clock_bit (negsuc 0) (pos 0)))
    true

-- "and off DMG the lengths at maximum"
unfoldable pub refilled : Apu → Apu
refilled a = with_groups a (pulse.refilled a.pulse1) (pulse.refilled a.pulse2) (wave.refilled a.wave) (noise.refilled a.noise)

-- power on; on DMG the lengths stay
unfoldable pub powered_on : Apu → Apu
powered_on a = pick a.is_dmg (restarted a) (refilled (restarted a))

-- a write of FF26: bit 7 is the power, and only a change of it does anything
unfoldable pub power_written : Apu → ℕ → Apu
power_written a value = pick (leb 128 value) (pick a.power a (powered_on a)) (pick a.power (powered_off a) a)

-- ---- any address

-- FF10..FF25, FF26, nothing at FF27..FF2F, wave RAM
unfoldable pub written_at : Apu → ℕ → ℕ → Apu
written_at a at value =
    pick (ltb at 22) (gated_written a at value)
    (pick (eqb at 22) (power_written a value)
    (pick (ltb at 32) a
    (ram_written a at value)))

-- a write of any address; refusal 1 outside FF10..FF3F, "power on or off"
unfoldable pub write_of : Apu → ℕ → ℕ → Written
write_of a addr value =
    pick (is_sound addr)
    (record { answer = Ok tt; apu = written_at a (addr - 0xFF10) value })
    (record { answer = Err (record {}); apu = a })
