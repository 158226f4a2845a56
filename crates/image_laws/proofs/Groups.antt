-- A group as bytes, for any channel whose own laws are given: by place as the parts, each part by its own laws. Assumes nothing.
use Prim.Native.Nat.{ℕ, ◌+◌, ◌<◌}
use mathlib.Core.Path.{◌≡◌}
use mathlib.Core.List.{List, ◌++◌}
use lib.Dec.{T}
use Rattle.frame.specs.Held as float
use Rattle.channel_groups.specs.Groups.{Kind, Held}
use Rattle.channel_groups.specs.declared.group.Group.{Group}
use Rattle.image_fields.specs.Bytes.{row}
use Rattle.image_parts.specs.Groups.{Layout, group_bytes, group_at, group_tests, group_fits}
use Rattle.image_laws.specs.Images.{Bytewise}
use Rattle.image_laws.proofs.Numbers.{passed, every}
use Rattle.image_laws.proofs.Parts.{converter_back, converter_held, converter-fits, length_back, length_held, length-fits}
use Rattle.image_laws.proofs.Parts.{converter_row, length_row, channel_row, parts_same}

-- what a channel's bytes say is the channel again and passes; what passes is a channel in its ranges, and its bytes are those
pub record ChannelLaws {C M : Type 0} (k : Kind C M) (p : Layout C) : Type 0 where
  pub back : (s : List ℕ) (at : ℕ) (c : C) → k.Own c → row s at 0 p.size ≡ p.bytes c → p.value s at ≡ c
  pub same : (s : List ℕ) (at : ℕ) → Bytewise s → T (p.fits s at) → p.bytes (p.value s at) ≡ row s at 0 p.size
  pub held : (s : List ℕ) (at : ℕ) → T (p.fits s at) → k.Own (p.value s at)
  pub fits : (s : List ℕ) (at : ℕ) (c : C) → k.Own c → row s at 0 p.size ≡ p.bytes c → T (p.fits s at)

module _ {C M : Type 0} {k : Kind C M} {p : Layout C} (laws : ChannelLaws k p) (most : ℕ) (small : most < 65536) (s : List ℕ) (at : ℕ) where
  -- the row of a group: converter and length, then the channel
  abbrev whole : List ℕ
  whole = row s at 0 11 ++ row s at 11 p.size

  pub group_back : (g : Group C) → Held k most g → float.Held g.converter → whole ≡ group_bytes p g → group_at p s at ≡ g
  unfolding group_bytes
  group_back g h f e =
      rw (
        converter_back s at g.converter f (converter_row s at p.size _ _ _ e),
        length_back s (at + 4) most small g.length h.length (length_row s at p.size _ _ _ e),
        laws.back s (at + 11) g.channel h.channel (channel_row s at p.size _ _ _ e),
      )

  pub group_same : Bytewise s → T (group_fits p most s at) → group_bytes p (group_at p s at) ≡ whole
  unfolding group_bytes
  group_same b t =
      let h = passed (group_tests p most s at) t in
      parts_same s at p.size most small _ b (h 0) (h 1) (laws.same s (at + 11) b (h 2))

  pub group_held : T (group_fits p most s at) → Held k most (group_at p s at)
  group_held t =
      let h = passed (group_tests p most s at) t in
      record { length = length_held s (at + 4) most small (h 1); channel = laws.held s (at + 11) (h 2) }

  pub group_float_held : T (group_fits p most s at) → float.Held (group_at p s at).converter
  group_float_held t = converter_held s at (passed (group_tests p most s at) t 0)

  pub group-fits : (g : Group C) → Held k most g → float.Held g.converter → whole ≡ group_bytes p g → T (group_fits p most s at)
  unfolding group_bytes
  group-fits g h f e =
      let converter = converter-fits s at g.converter f (converter_row s at p.size _ _ _ e) in
      let length = length-fits s (at + 4) most small g.length h.length (length_row s at p.size _ _ _ e) in
      let channel = laws.fits s (at + 11) g.channel h.channel (channel_row s at p.size _ _ _ e) in
      every (group_tests p most s at) (converter, (length, (channel, tt)))
