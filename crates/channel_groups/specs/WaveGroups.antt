-- The wave with its length record and its converter: what is its own. What all groups do alike stands in `Groups`.
-- Rules from document 01, "Channel rules" and "Registers and power". Assumes nothing.
use Rattle.std.specs.Prelude.{ℕ, ◌+◌, ◌*◌, ◌/◌, ◌%◌, Bool, eqb, leb}
use Rattle.ground.specs.Pick.{pick}
use Rattle.frame.specs.Held as float
use Rattle.channel_parts.specs.Length as lengths
use Rattle.channel_wave.specs.Wave as channel
use Rattle.channel_wave.specs.With.{with_on, with_frequency, with_position}
use Rattle.channel_wave.specs.declared.wave_channel.WaveChannel.{WaveChannel}
use Rattle.channel_groups.specs.Groups as any
use Rattle.channel_groups.specs.Groups.{Kind}
use Rattle.channel_groups.specs.Bits.{control_byte, low_written, high_written}
use Rattle.channel_groups.specs.declared.group.Group.{Group}
use Rattle.channel_groups.specs.declared.group.Sounded.{Sounded}

abbrev pub WaveGroup : Type 0
WaveGroup = Group WaveChannel

-- what a write of FFx4 does to the frequency
abbrev pub retuned : ℕ → WaveChannel → WaveChannel
retuned value c = with_frequency c (high_written c.frequency value)

abbrev pub kind : Kind WaveChannel Bool
kind =
    record {
      Own = channel.Held;
      fresh = channel.fresh;
      on = λ c. c.channel_enable;
      switched = with_on;
      retuned = retuned;
      triggered = λ dmg c. channel.triggered c dmg;
      clocked = channel.clocked;
      output_of = channel.output_of;
      muted_of = channel.muted_of;
    }

-- "Ranges held from the start"; the maximal length is 256
abbrev pub Held : WaveGroup → Type 0
Held = any.Held kind 256

-- the range of its capacitor, which no register or clock call asks
abbrev pub FloatHeld : WaveGroup → Type 0
FloatHeld g = float.Held g.converter

-- "Start: everything 0 or off"
abbrev pub fresh : WaveGroup
fresh = any.fresh kind 256

abbrev pub with_channel : WaveGroup → WaveChannel → WaveGroup
with_channel = any.with_channel

-- a write of FF1A: "DAC is .. (wave FF1A bit 7)"
unfoldable pub dac_written : WaveGroup → ℕ → WaveGroup
dac_written g value = with_channel g (channel.dac_set g.channel (leb 128 value))

-- a write of FF1B
unfoldable pub length_written : WaveGroup → ℕ → WaveGroup
length_written g value = any.with_length g (lengths.written g.length value)

-- a write of FF1C: bits 5 and 6 are the volume
unfoldable pub volume_written : WaveGroup → ℕ → WaveGroup
volume_written g value = with_channel g (channel.volume_written g.channel (value / 32))

-- a write of FF1D
unfoldable pub tuned : WaveGroup → ℕ → WaveGroup
tuned g value = with_channel g (with_frequency g.channel (low_written g.channel.frequency value))

-- a write of FF1E: its trigger, and all of it
abbrev pub triggered : WaveGroup → Bool → Bool → WaveGroup
triggered = any.triggered kind

abbrev pub controlled : WaveGroup → Bool → Bool → ℕ → WaveGroup
controlled = any.controlled kind

-- a write at an offset in the five registers
unfoldable pub written : WaveGroup → ℕ → Bool → Bool → ℕ → WaveGroup
written g at dmg even value =
    pick (eqb at 0) (dac_written g value)
    (pick (eqb at 1) (length_written g value)
    (pick (eqb at 2) (volume_written g value)
    (pick (eqb at 3) (tuned g value)
    (pick (eqb at 4) (controlled g dmg even value)
    g))))

-- a write to wave RAM
unfoldable pub ram_written : WaveGroup → Bool → ℕ → ℕ → WaveGroup
ram_written g dmg offset value = with_channel g (channel.stored g.channel dmg offset value)

-- "OR masks on reading .. 7F FF 9F FF BF"
unfoldable pub byte_of : WaveGroup → ℕ → ℕ
byte_of g at =
    pick (eqb at 0) (0x7F + pick g.channel.dac_enable 128 0)
    (pick (eqb at 2) (0x9F + g.channel.volume % 4 * 32)
    (pick (eqb at 4) (control_byte g.length)
    0xFF))

-- "Power on puts .. duty and wave positions at 0"
unfoldable pub rewound : WaveGroup → WaveGroup
rewound g = with_channel g (with_position g.channel 0)

-- a working clock of the channel
abbrev pub clocked : WaveGroup → WaveGroup
clocked = any.clocked kind

abbrev pub length_clocked : WaveGroup → WaveGroup
length_clocked = any.length_clocked kind

abbrev pub refilled : WaveGroup → WaveGroup
refilled = any.refilled

abbrev pub silenced : WaveGroup → WaveGroup
silenced = any.silenced kind

-- "Every channel's converter steps once per frame": by FF24 and FF25, where the wave is number 2
abbrev pub sounded : WaveGroup → ℕ → ℕ → Sounded WaveChannel
sounded g control selection = any.sounded kind g control selection 2
