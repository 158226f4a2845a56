-- Each need holds at each of the nine positions. Assumes nothing.
use borrow.Author.Rules.{sfits_of}
use mathlib.Core.Path.{◌≡◌, refl}
use lib.Dec.{T, lit<}
use lib.IntN.{ℤ, pos, ◌+ℤ◌, nat_abs}
use lib.Signed.{non_neg}
use mir.Syntax.{w8}
use mir.Val.{Fits, SFits, to_z, of_z}
use mir.Facts.{Fits-lit}
use Rattle.clocks.specs.Position.{PositionHeld, next_of}
use Rattle.clocks.proofs.Positions.{nine}
use Rattle.clocks.proofs.position.next_position.Statement.{statement}
use Rattle.clocks.proofs.position.next_position.Tie as tie

-- the position after z, as the machine has it
abbrev up : ℤ → ℤ
up z = to_z w8 (of_z w8 z) +ℤ pos 1

up_fits : (z : ℤ) → PositionHeld z → SFits w8 (up z)
up_fits =
    nine (λ (z : ℤ). SFits w8 (up z)) (sfits_of (lit< tt)) (sfits_of (lit< tt)) (sfits_of (lit< tt)) (sfits_of (lit< tt)) (sfits_of (lit< tt))
    (sfits_of (lit< tt)) (sfits_of (lit< tt)) (sfits_of (lit< tt)) (sfits_of (lit< tt))

abbrev Number : ℤ → Type 0
Number z = T (non_neg (to_z w8 (of_z w8 (up z)))) × Fits w8 (nat_abs (to_z w8 (of_z w8 (up z))))

number : (z : ℤ) → PositionHeld z → Number z
number =
    nine Number (tt, Fits-lit tt) (tt, Fits-lit tt) (tt, Fits-lit tt) (tt, Fits-lit tt) (tt, Fits-lit tt)
    (tt, Fits-lit tt) (tt, Fits-lit tt) (tt, Fits-lit tt) (tt, Fits-lit tt)

next-is : (z : ℤ) → PositionHeld z → nat_abs (to_z w8 (of_z w8 (up z))) ≡ next_of z
next-is = nine (λ (z : ℤ). nat_abs (to_z w8 (of_z w8 (up z))) ≡ next_of z) refl refl refl refl refl refl refl refl refl

pub next_position_spec : {M : Type 1} → statement M
next_position_spec =
    tie.close
    (tie.spec
    (λ c. up_fits c.args.position c.requires)
    (λ c. number c.args.position c.requires)
    (λ c. next-is c.args.position c.requires))
