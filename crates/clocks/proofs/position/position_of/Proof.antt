-- The cast is the number itself at each of the eight. Assumes nothing.
use borrow.Author.Rules.{rules}
use mathlib.Core.Path.{◌≡◌, refl}
use Prim.Native.Nat.{ℕ}
use lib.IntN.{pos}
use mir.Syntax.{w8}
use mir.Val.{to_z}
use Rattle.clocks.proofs.Positions.{eight}
use Rattle.clocks.proofs.position.position_of.Statement.{statement}
use Rattle.clocks.proofs.position.position_of.Tie as tie

pub position_of_spec : {M : Type 1} → statement M
position_of_spec =
    tie.close
    (tie.spec
    (λ c. search rules)
    (λ c. eight (λ (n : ℕ). to_z w8 n ≡ pos n) refl refl refl refl refl refl refl refl c.args.number c.requires))
