-- The unit with one thing written anew, all else as it was: its fields in three rows, and each setter by its row's. None of these is a rule. Assumes nothing.
use Rattle.std.specs.Prelude.{ℕ, Bool, ℤ, Float}
use Rattle.channel_groups.specs.PulseGroups.{PulseGroup}
use Rattle.channel_groups.specs.WaveGroups.{WaveGroup}
use Rattle.channel_groups.specs.NoiseGroups.{NoiseGroup}
use Rattle.apu.specs.declared.Apu.{Apu}

-- the four groups anew
abbrev pub with_groups : Apu → PulseGroup → PulseGroup → WaveGroup → NoiseGroup → Apu
with_groups a p q w n =
    record {
      pulse1 = p;
      pulse2 = q;
      wave = w;
      noise = n;
      channels_control = a.channels_control;
      channels_selection = a.channels_selection;
      power = a.power;
      sample_counter = a.sample_counter;
      divider_sequencer_clock_bit = a.divider_sequencer_clock_bit;
      sequencer_position = a.sequencer_position;
      clocks_counter = a.clocks_counter;
      is_dmg = a.is_dmg;
    }

-- FF24, FF25 and the power anew
abbrev pub with_unit_registers : Apu → ℕ → ℕ → Bool → Apu
with_unit_registers a control selection on =
    record {
      pulse1 = a.pulse1;
      pulse2 = a.pulse2;
      wave = a.wave;
      noise = a.noise;
      channels_control = control;
      channels_selection = selection;
      power = on;
      sample_counter = a.sample_counter;
      divider_sequencer_clock_bit = a.divider_sequencer_clock_bit;
      sequencer_position = a.sequencer_position;
      clocks_counter = a.clocks_counter;
      is_dmg = a.is_dmg;
    }

-- what only clock calls and the power move, anew: sample counter, stored divider bit, sequencer position, half-clocks
abbrev pub with_timing : Apu → Float → Bool → ℤ → ℕ → Apu
with_timing a counter bit position half =
    record {
      pulse1 = a.pulse1;
      pulse2 = a.pulse2;
      wave = a.wave;
      noise = a.noise;
      channels_control = a.channels_control;
      channels_selection = a.channels_selection;
      power = a.power;
      sample_counter = counter;
      divider_sequencer_clock_bit = bit;
      sequencer_position = position;
      clocks_counter = half;
      is_dmg = a.is_dmg;
    }

abbrev pub with_pulse1 : Apu → PulseGroup → Apu
with_pulse1 a g = with_groups a g a.pulse2 a.wave a.noise

abbrev pub with_pulse2 : Apu → PulseGroup → Apu
with_pulse2 a g = with_groups a a.pulse1 g a.wave a.noise

abbrev pub with_wave : Apu → WaveGroup → Apu
with_wave a g = with_groups a a.pulse1 a.pulse2 g a.noise

abbrev pub with_noise : Apu → NoiseGroup → Apu
with_noise a g = with_groups a a.pulse1 a.pulse2 a.wave g

-- another FF24
abbrev pub with_control : Apu → ℕ → Apu
with_control a v = with_unit_registers a v a.channels_selection a.power

-- another FF25
abbrev pub with_selection : Apu → ℕ → Apu
with_selection a v = with_unit_registers a a.channels_control v a.power

abbrev pub with_power : Apu → Bool → Apu
with_power a on = with_unit_registers a a.channels_control a.channels_selection on

-- another sample counter and half-clocks
abbrev pub with_clocks : Apu → Float → ℕ → Apu
with_clocks a counter half = with_timing a counter a.divider_sequencer_clock_bit a.sequencer_position half

-- another stored divider bit
abbrev pub with_bit : Apu → Bool → Apu
with_bit a bit = with_timing a a.sample_counter bit a.sequencer_position a.clocks_counter

-- another sequencer position
abbrev pub with_position : Apu → ℤ → Apu
with_position a position = with_timing a a.sample_counter a.divider_sequencer_clock_bit position a.clocks_counter
