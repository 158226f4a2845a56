-- What a pulse, the wave and the noise do alike with their length record and their converter: `Dac<LengthCountedChannel<C>>` of the Rust, said once for any
-- channel C as it is there. Rules from document 01, "Channel rules" and "Registers and power". Assumes nothing.
use Rattle.std.specs.Prelude.{ℕ, Bool, false, not, ◌&&◌}
use Rattle.ground.specs.Pick.{pick}
use Rattle.frame.specs.Converter as converter
use Rattle.frame.specs.Mixing.{voiced}
use Rattle.frame.specs.declared.converter.Converter.{Converter}
use Rattle.channel_parts.specs.Length as lengths
use Rattle.channel_parts.specs.declared.length.Length.{Length}
use Rattle.channel_parts.specs.declared.length.Clocked.{Clocked}
use Rattle.channel_groups.specs.Bits.{enable_of, trigger_of}
use Rattle.channel_groups.specs.declared.group.Group.{Group}
use Rattle.channel_groups.specs.declared.group.Sounded.{Sounded}

-- a kind of channel by its own rules; M is what its trigger has to know of the unit
pub record Kind (C M : Type 0) : Type 1 where
  -- "Ranges held from the start", and the start
  pub Own : C → Type 0
  pub fresh : C
  -- the on/off switch
  pub on : C → Bool
  pub switched : C → Bool → C
  -- a write of FFx4: what it does to the frequency, and the trigger
  pub retuned : ℕ → C → C
  pub triggered : M → C → C
  -- a working clock, and what goes to the converter
  pub clocked : C → C
  pub output_of : C → ℕ
  pub muted_of : C → Bool

-- the group with another converter, length record or channel
abbrev pub with_converter : {C : Type 0} → Group C → Converter → Group C
with_converter g d = record { converter = d; length = g.length; channel = g.channel }

abbrev pub with_length : {C : Type 0} → Group C → Length → Group C
with_length g l = record { converter = g.converter; length = l; channel = g.channel }

abbrev pub with_channel : {C : Type 0} → Group C → C → Group C
with_channel g c = record { converter = g.converter; length = g.length; channel = c }

-- "off DMG the lengths at maximum"
unfoldable pub refilled : {C : Type 0} → Group C → Group C
refilled g = with_length g (lengths.reset g.length)

module _ {C M : Type 0} (k : Kind C M) where
  -- "Ranges held from the start": the length record's with its maximum, and the channel's own
  pub record Held (most : ℕ) (g : Group C) : Type 0 where
    pub length : lengths.Held most g.length
    pub channel : k.Own g.channel

  -- "Start: everything 0 or off", with the maximal length
  abbrev pub fresh : ℕ → Group C
  fresh most = record { converter = converter.fresh; length = lengths.fresh most; channel = k.fresh }

  -- what a length clock leaves, and the channel off where it "turns the channel off"
  abbrev pub length_counted : Group C → Clocked → C → Group C
  length_counted g after c = record { converter = g.converter; length = after.length; channel = k.switched c (k.on c && not after.off) }

  -- "A length clock .. turns the channel off"
  unfoldable pub length_clocked : Group C → Group C
  length_clocked g = length_counted g (lengths.clocked g.length) g.channel

  -- "An FFx4 write sets the frequency first (not noise), then length enable; newly enabled while the next position .. is even, length is clocked at once"
  unfoldable pub readied : Group C → Bool → ℕ → Group C
  readied g even value = length_counted g (lengths.enabling g.length (enable_of value) even) (k.retuned value g.channel)

  -- "A trigger with counter 0 sets the maximum": of the length record, and of the channel by its own rule
  unfoldable pub triggered : Group C → M → Bool → Group C
  triggered g model even =
      record { converter = g.converter; length = lengths.triggered g.length even; channel = k.triggered model g.channel }

  -- a write of FFx4
  unfoldable pub controlled : Group C → M → Bool → ℕ → Group C
  controlled g model even value = pick (trigger_of value) (triggered (readied g even value) model even) (readied g even value)

  -- a working clock of the channel
  unfoldable pub clocked : Group C → Group C
  clocked g = with_channel g (k.clocked g.channel)

  -- "then all channels go off"
  unfoldable pub silenced : Group C → Group C
  silenced g = with_channel g (k.switched g.channel false)

  -- "Every channel's converter steps once per frame": by FF24, FF25 and the channel's number there
  unfoldable pub sounded : Group C → ℕ → ℕ → ℕ → Sounded C
  sounded g control selection number =
      let after = voiced g.converter (k.output_of g.channel) (k.muted_of g.channel) control selection number in
      record { group = with_converter g after.converter; sides = after.sides }
