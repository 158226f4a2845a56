-- A group as bytes, for any channel as bytes: its converter, its length record, its channel. Quotes are request 2026-01's. Assumes nothing.
use Rattle.std.specs.Prelude.{ℕ, ◌+◌, Bool, List, [], ◌∷◌, ◌++◌}
use Rattle.image_fields.specs.Bytes.{all_of}
use Rattle.channel_groups.specs.declared.group.Group.{Group}
use Rattle.image_parts.specs.Parts.{converter_bytes, converter_at, converter_fits, length_bytes, length_at, length_fits}

-- a channel as bytes: how many there are, what is written, what the bytes from a place on say, and whether "all fields lie in document 01's ranges"
pub record Layout (C : Type 0) : Type 0 where
  pub size : ℕ
  pub bytes : C → List ℕ
  pub value : List ℕ → ℕ → C
  pub fits : List ℕ → ℕ → Bool

module _ {C : Type 0} (channel : Layout C) where
  unfoldable pub group_bytes : Group C → List ℕ
  group_bytes g = converter_bytes g.converter ++ length_bytes g.length ++ channel.bytes g.channel

  abbrev pub group_at : List ℕ → ℕ → Group C
  group_at s at = record { converter = converter_at s at; length = length_at s (at + 4); channel = channel.value s (at + 11) }

  -- by the maximal length
  abbrev pub group_tests : ℕ → List ℕ → ℕ → List Bool
  group_tests most s at = converter_fits s at ∷ length_fits most s (at + 4) ∷ channel.fits s (at + 11) ∷ []

  abbrev pub group_fits : ℕ → List ℕ → ℕ → Bool
  group_fits most s at = all_of (group_tests most s at)
