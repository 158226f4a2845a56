-- A pulse with its length record and its converter: what is its own. What all groups do alike stands in `Groups`.
-- Rules from document 01, "Channel rules" and "Registers and power". Assumes nothing.
use Rattle.std.specs.Prelude.{ℕ, ◌+◌, ◌*◌, ◌/◌, ◌%◌, Bool, eqb}
use Rattle.ground.specs.Pick.{pick}
use Rattle.frame.specs.Held as float
use Rattle.channel_parts.specs.Length as lengths
use Rattle.channel_parts.specs.Envelope as envelope
use Rattle.channel_pulse.specs.Pulse as channel
use Rattle.channel_pulse.specs.With.{with_on, with_frequency, with_position, with_envelope}
use Rattle.channel_pulse.specs.declared.pulse_channel.PulseChannel.{PulseChannel}
use Rattle.channel_groups.specs.Groups as any
use Rattle.channel_groups.specs.Groups.{Kind}
use Rattle.channel_groups.specs.Bits.{control_byte, low_written, high_written}
use Rattle.channel_groups.specs.declared.group.Group.{Group}
use Rattle.channel_groups.specs.declared.group.Sounded.{Sounded}

abbrev pub PulseGroup : Type 0
PulseGroup = Group PulseChannel

-- what a write of FFx4 does to the frequency
abbrev pub retuned : ℕ → PulseChannel → PulseChannel
retuned value c = with_frequency c (high_written c.frequency value)

abbrev pub kind : Kind PulseChannel (Unit {0})
kind =
    record {
      Own = channel.Held;
      fresh = channel.fresh;
      on = λ c. c.channel_enabled;
      switched = with_on;
      retuned = retuned;
      triggered = λ _ c. channel.triggered c;
      clocked = channel.clocked;
      output_of = channel.output_of;
      muted_of = channel.muted_of;
    }

-- "Ranges held from the start"; the maximal length is 64
abbrev pub Held : PulseGroup → Type 0
Held = any.Held kind 64

-- the range of its capacitor, which no register or clock call asks
abbrev pub FloatHeld : PulseGroup → Type 0
FloatHeld g = float.Held g.converter

-- "Start: everything 0 or off"
abbrev pub fresh : PulseGroup
fresh = any.fresh kind 64

abbrev pub with_channel : PulseGroup → PulseChannel → PulseGroup
with_channel = any.with_channel

-- a write of FF10
unfoldable pub sweep_written : PulseGroup → ℕ → PulseGroup
sweep_written g value = with_channel g (channel.sweep_written g.channel value)

-- a write of FF11 or FF16; with power off "without their duty bits"
unfoldable pub length_written : PulseGroup → Bool → ℕ → PulseGroup
length_written g power value =
    record {
      converter = g.converter;
      length = lengths.written g.length (value % 64);
      channel = pick power (channel.duty_written g.channel (value / 64)) g.channel;
    }

-- a write of FFx2
unfoldable pub envelope_written : PulseGroup → ℕ → PulseGroup
envelope_written g value = with_channel g (channel.enveloped g.channel value)

-- a write of FF13 or FF18
unfoldable pub tuned : PulseGroup → ℕ → PulseGroup
tuned g value = with_channel g (with_frequency g.channel (low_written g.channel.frequency value))

-- a write of FFx4: its trigger, and all of it
abbrev pub triggered : PulseGroup → Bool → PulseGroup
triggered g even = any.triggered kind g (record {}) even

abbrev pub controlled : PulseGroup → Bool → ℕ → PulseGroup
controlled g even value = any.controlled kind g (record {}) even value

-- a write at an offset in the five registers; at 0 nothing, since FF10 is `sweep_written` and FF15 is unused
unfoldable pub written : PulseGroup → ℕ → Bool → Bool → ℕ → PulseGroup
written g at power even value =
    pick (eqb at 1) (length_written g power value)
    (pick (eqb at 2) (envelope_written g value)
    (pick (eqb at 3) (tuned g value)
    (pick (eqb at 4) (controlled g even value)
    g)))

-- "OR masks on reading .. FF 3F 00 FF BF"; FF10 is the unit's
unfoldable pub byte_of : PulseGroup → ℕ → ℕ
byte_of g at =
    pick (eqb at 1) (0x3F + g.channel.duty % 4 * 64)
    (pick (eqb at 2) (envelope.byte_of g.channel.envelope)
    (pick (eqb at 4) (control_byte g.length)
    0xFF))

-- a sweep clock
unfoldable pub sweep_clocked : PulseGroup → PulseGroup
sweep_clocked g = with_channel g (channel.sweep_clocked g.channel)

-- an envelope clock
unfoldable pub envelope_clocked : PulseGroup → PulseGroup
envelope_clocked g = with_channel g (with_envelope g.channel (envelope.clocked g.channel.envelope))

-- "Power on puts .. duty and wave positions at 0"
unfoldable pub rewound : PulseGroup → PulseGroup
rewound g = with_channel g (with_position g.channel 0)

-- a working clock of the channel
abbrev pub clocked : PulseGroup → PulseGroup
clocked = any.clocked kind

abbrev pub length_clocked : PulseGroup → PulseGroup
length_clocked = any.length_clocked kind

abbrev pub refilled : PulseGroup → PulseGroup
refilled = any.refilled

abbrev pub silenced : PulseGroup → PulseGroup
silenced = any.silenced kind

-- "Every channel's converter steps once per frame": by FF24, FF25 and the channel's number there, 0 or 1
abbrev pub sounded : PulseGroup → ℕ → ℕ → ℕ → Sounded PulseChannel
sounded = any.sounded kind
