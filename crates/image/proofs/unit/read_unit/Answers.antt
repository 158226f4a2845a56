-- Each field is read where the definition reads it; a position read from the record is the position. Assumes nothing.
use mathlib.Core.Path.{◌≡◌, refl}
use mathlib.Core.Bool.{Bool, true, false}
use Prim.Native.Nat.{ℕ, ◌≤◌}
use lib.Dec.{T, leb, leb→le}
use lib.IntN.{pos, negsuc}
use mir.Syntax.{w8}
use mir.Val.{to_z, of_z}
use Rattle.ground.specs.Pick.{pick}
use Rattle.clocks.proofs.Positions.{eight}
use Rattle.image_fields.specs.Codes.{position_of}
use Rattle.image.proofs.unit.read_unit.Goals as goal

of-same : (n : ℕ) → to_z w8 (of_z w8 (position_of n)) ≡ position_of n
unfolding position_of pick
of-same n = go (leb n 7) (leb→le n 7)
  where
    go : (b : Bool) → (T b → n ≤ 7) → to_z w8 (of_z w8 (pick b (pos n) (negsuc 0))) ≡ pick b (pos n) (negsuc 0)
    go true l = eight (λ (n : ℕ). to_z w8 (of_z w8 (pos n)) ≡ pos n) refl refl refl refl refl refl refl refl n (l tt)
    go false l = refl

pub returns : goal.returns
returns c =
    let position_at = c.position_at in
    let counter = c.counter in
    let at-eight = c.eight in
    rw (
      position_at.ensures,
      counter.ensures,
      at-eight.ensures,
      c.read_group-4.ensures,
      c.read_group-3.ensures,
      c.read_group-2.ensures,
      c.read_group.ensures,
    )
    (simp of-same)
