-- A wave channel with one thing written anew, all else as it was: its fields in three rows, and each setter by its row's.
-- None of these is a rule. Assumes nothing.
use Rattle.std.specs.Prelude.{ℕ, Bool, List}
use Rattle.channel_wave.specs.declared.wave_channel.WaveChannel.{WaveChannel}

-- another volume, stored shift, frequency and wave RAM
abbrev pub with_volume_frequency_and_ram : WaveChannel → ℕ → ℕ → ℕ → List ℕ → WaveChannel
with_volume_frequency_and_ram w volume shift frequency buffer =
    record {
      volume = volume;
      volume_shift = shift;
      frequency = frequency;
      buffer = buffer;
      buffer_position = w.buffer_position;
      buffer_position_just_clocked = w.buffer_position_just_clocked;
      frequency_timer = w.frequency_timer;
      channel_enable = w.channel_enable;
      dac_enable = w.dac_enable;
    }

-- another position, "just clocked" and timer
abbrev pub with_position_and_timer : WaveChannel → ℕ → Bool → ℕ → WaveChannel
with_position_and_timer w position just timer =
    record {
      volume = w.volume;
      volume_shift = w.volume_shift;
      frequency = w.frequency;
      buffer = w.buffer;
      buffer_position = position;
      buffer_position_just_clocked = just;
      frequency_timer = timer;
      channel_enable = w.channel_enable;
      dac_enable = w.dac_enable;
    }

-- the channel on or off, its DAC on or off
abbrev pub with_on_and_dac : WaveChannel → Bool → Bool → WaveChannel
with_on_and_dac w on dac =
    record {
      volume = w.volume;
      volume_shift = w.volume_shift;
      frequency = w.frequency;
      buffer = w.buffer;
      buffer_position = w.buffer_position;
      buffer_position_just_clocked = w.buffer_position_just_clocked;
      frequency_timer = w.frequency_timer;
      channel_enable = on;
      dac_enable = dac;
    }

-- another volume and stored shift
abbrev pub with_volume : WaveChannel → ℕ → ℕ → WaveChannel
with_volume w volume shift = with_volume_frequency_and_ram w volume shift w.frequency w.buffer

abbrev pub with_frequency : WaveChannel → ℕ → WaveChannel
with_frequency w frequency = with_volume_frequency_and_ram w w.volume w.volume_shift frequency w.buffer

-- other wave RAM
abbrev pub with_buffer : WaveChannel → List ℕ → WaveChannel
with_buffer w buffer = with_volume_frequency_and_ram w w.volume w.volume_shift w.frequency buffer

abbrev pub with_position : WaveChannel → ℕ → WaveChannel
with_position w position = with_position_and_timer w position w.buffer_position_just_clocked w.frequency_timer

abbrev pub with_on : WaveChannel → Bool → WaveChannel
with_on w on = with_on_and_dac w on w.dac_enable

abbrev pub with_dac : WaveChannel → Bool → WaveChannel
with_dac w dac = with_on_and_dac w w.channel_enable dac
