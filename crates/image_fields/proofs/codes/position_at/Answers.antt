-- Up to 7 the cast is the byte itself, by the eight values, and above it is -1. Assumes nothing.
use borrow.Author.Tests.{lt-leb}
use mathlib.Core.Path.{◌≡◌, refl}
use Prim.Native.Nat.{ℕ}
use mir.Syntax.{w8}
use mir.Val.{to_z}
use Rattle.ground.specs.Pick.{pick}
use Rattle.clocks.proofs.Positions.{eight}
use Rattle.image_fields.specs.Codes.{position_of}
use Rattle.image_fields.proofs.codes.position_at.Goals as goal

pub returns-then-byte-le7 : goal.returns-then-byte-le7
unfolding position_of pick
returns-then-byte-le7 c = eight (λ (n : ℕ). to_z w8 n ≡ position_of n) refl refl refl refl refl refl refl refl c.args.byte c.if-byte-le7.true

pub returns : goal.returns
unfolding position_of pick
returns c = rw (lt-leb _ _ c.if-byte-le7.false)
