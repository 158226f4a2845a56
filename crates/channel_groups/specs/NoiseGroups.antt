-- The noise with its length record and its converter: what is its own. What all groups do alike stands in `Groups`.
-- Rules from document 01, "Channel rules" and "Registers and power". Assumes nothing.
use Rattle.std.specs.Prelude.{ℕ, ◌%◌, Bool, eqb}
use Rattle.ground.specs.Pick.{pick}
use Rattle.frame.specs.Held as float
use Rattle.channel_parts.specs.Length as lengths
use Rattle.channel_parts.specs.Envelope as envelope
use Rattle.channel_noise.specs.Noise as channel
use Rattle.channel_noise.specs.With.{with_on, with_envelope}
use Rattle.channel_noise.specs.declared.noise_channel.NoiseChannel.{NoiseChannel}
use Rattle.channel_groups.specs.Groups as any
use Rattle.channel_groups.specs.Groups.{Kind}
use Rattle.channel_groups.specs.Bits.{control_byte}
use Rattle.channel_groups.specs.declared.group.Group.{Group}
use Rattle.channel_groups.specs.declared.group.Sounded.{Sounded}

abbrev pub NoiseGroup : Type 0
NoiseGroup = Group NoiseChannel

abbrev pub kind : Kind NoiseChannel (Unit {0})
kind =
    record {
      Own = channel.Held;
      fresh = channel.fresh;
      on = λ c. c.channel_enabled;
      switched = with_on;
      retuned = λ value c. c;
      triggered = λ _ c. channel.triggered c;
      clocked = channel.clocked;
      output_of = channel.output_of;
      muted_of = channel.muted_of;
    }

-- "Ranges held from the start"; the maximal length is 64
abbrev pub Held : NoiseGroup → Type 0
Held = any.Held kind 64

-- the range of its capacitor, which no register or clock call asks
abbrev pub FloatHeld : NoiseGroup → Type 0
FloatHeld g = float.Held g.converter

-- "Start: everything 0 or off"
abbrev pub fresh : NoiseGroup
fresh = any.fresh kind 64

abbrev pub with_channel : NoiseGroup → NoiseChannel → NoiseGroup
with_channel = any.with_channel

-- a write of FF20
unfoldable pub length_written : NoiseGroup → ℕ → NoiseGroup
length_written g value = any.with_length g (lengths.written g.length (value % 64))

-- a write of FF21
unfoldable pub envelope_written : NoiseGroup → ℕ → NoiseGroup
envelope_written g value = with_channel g (channel.enveloped g.channel value)

-- a write of FF22
unfoldable pub noise_written : NoiseGroup → ℕ → NoiseGroup
noise_written g value = with_channel g (channel.written g.channel value)

-- a write of FF23: its trigger, and all of it; the noise has no frequency
abbrev pub triggered : NoiseGroup → Bool → NoiseGroup
triggered g even = any.triggered kind g (record {}) even

abbrev pub controlled : NoiseGroup → Bool → ℕ → NoiseGroup
controlled g even value = any.controlled kind g (record {}) even value

-- a write at an offset in the five registers; at 0 nothing, since FF1F is unused
unfoldable pub written : NoiseGroup → ℕ → Bool → ℕ → NoiseGroup
written g at even value =
    pick (eqb at 1) (length_written g value)
    (pick (eqb at 2) (envelope_written g value)
    (pick (eqb at 3) (noise_written g value)
    (pick (eqb at 4) (controlled g even value)
    g)))

-- "OR masks on reading .. FF FF 00 00 BF"
unfoldable pub byte_of : NoiseGroup → ℕ → ℕ
byte_of g at =
    pick (eqb at 2) (envelope.byte_of g.channel.envelope)
    (pick (eqb at 3) (channel.byte_of g.channel)
    (pick (eqb at 4) (control_byte g.length)
    0xFF))

-- an envelope clock
unfoldable pub envelope_clocked : NoiseGroup → NoiseGroup
envelope_clocked g = with_channel g (with_envelope g.channel (envelope.clocked g.channel.envelope))

-- a working clock of the channel
abbrev pub clocked : NoiseGroup → NoiseGroup
clocked = any.clocked kind

abbrev pub length_clocked : NoiseGroup → NoiseGroup
length_clocked = any.length_clocked kind

abbrev pub refilled : NoiseGroup → NoiseGroup
refilled = any.refilled

abbrev pub silenced : NoiseGroup → NoiseGroup
silenced = any.silenced kind

-- "Every channel's converter steps once per frame": by FF24 and FF25, where the noise is number 3
abbrev pub sounded : NoiseGroup → ℕ → ℕ → Sounded NoiseChannel
sounded g control selection = any.sounded kind g control selection 3
