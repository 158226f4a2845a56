-- The two constructors, `new` and `new_skip_boot_rom`, from document 01, "Channel rules". Assumes nothing.
use Rattle.std.specs.Prelude.{Bool, true, false, pos}
use Rattle.std.specs.Float.{binary64}
use Rattle.std.specs.Float.Ieee.{of_bits}
use Rattle.ground.specs.Pick.{pick}
use Rattle.channel_parts.specs.Envelope as envelope
use Rattle.channel_parts.specs.Length as lengths
use Rattle.channel_pulse.specs.Pulse.{duty_written}
use Rattle.channel_pulse.specs.With.{with_on, with_envelope}
use Rattle.channel_groups.specs.PulseGroups.{PulseGroup}
use Rattle.channel_groups.specs.NoiseGroups.{NoiseGroup}
use Rattle.channel_groups.specs.PulseGroups as pulse
use Rattle.channel_groups.specs.WaveGroups as wave
use Rattle.channel_groups.specs.NoiseGroups as noise
use Rattle.apu.specs.declared.Apu.{Apu}

-- "Start: everything 0 or off", on DMG or not
unfoldable pub fresh : Bool → Apu
fresh dmg =
    record {
      pulse1 = pulse.fresh;
      pulse2 = pulse.fresh;
      wave = wave.fresh;
      noise = noise.fresh;
      channels_control = 0;
      channels_selection = 0;
      power = false;
      sample_counter = of_bits binary64 0;
      divider_sequencer_clock_bit = false;
      sequencer_position = pos 0;
      clocks_counter = 0;
      is_dmg = dmg;
    }

-- "`new_skip_boot_rom` then sets duty 2 and envelope F3 on pulse 1 and turns that channel on"
abbrev pub booted : PulseGroup → PulseGroup
booted g =
    record {
      converter = g.converter;
      length = g.length;
      channel = with_on (duty_written (with_envelope g.channel (envelope.written g.channel.envelope 0xF3)) 2) true;
    }

-- "noise length counter 1": the maximum, 64, less 63
abbrev pub shortened : NoiseGroup → NoiseGroup
shortened g = record { converter = g.converter; length = lengths.written g.length 0x3F; channel = g.channel }

-- `new_skip_boot_rom`: the two above, and "FF24 77, FF25 F3, power on"
unfoldable pub skipped : Bool → Apu
skipped dmg =
    let a = fresh dmg in
    record {
      pulse1 = booted a.pulse1;
      pulse2 = a.pulse2;
      wave = a.wave;
      noise = shortened a.noise;
      channels_control = 0x77;
      channels_selection = 0xF3;
      power = true;
      sample_counter = a.sample_counter;
      divider_sequencer_clock_bit = a.divider_sequencer_clock_bit;
      sequencer_position = a.sequencer_position;
      clocks_counter = a.clocks_counter;
      is_dmg = a.is_dmg;
    }

-- either constructor, by whether it skips the boot program, on DMG or not
abbrev pub constructed : Bool → Bool → Apu
constructed skip dmg = pick skip (skipped dmg) (fresh dmg)
