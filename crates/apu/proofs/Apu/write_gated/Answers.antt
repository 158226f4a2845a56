-- Each way out is the case of `gated_written` that power and offset pick. Assumes nothing.
use mathlib.Core.Path.{◌≡◌}
use mathlib.Core.Logic.{◌⊎◌, inl, inr}
use mathlib.Core.Bool.{true}
use Prim.Native.Nat.{ℕ}
use borrow.Author.Tests.{ne_eqb}
use native.Mathlib.Omega.{arith}
use Rattle.ground.specs.Pick.{pick}
use Rattle.apu.specs.Registers.{is_length, gated_written}
use Rattle.apu.proofs.Apu.write_gated.Goals as goal
use Rattle.apu.proofs.Apu.write_gated.Goals.{then-self, else-self+in-1, else-self+in_default}

a_length : (at : ℕ) → at ≡ 1 ⊎ (at ≡ 6 ⊎ (at ≡ 11 ⊎ at ≡ 16)) → is_length at ≡ true
a_length at (inl e) = rw e
a_length at (inr (inl e)) = rw e
a_length at (inr (inr (inl e))) = rw e
a_length at (inr (inr (inr e))) = rw e

pub returns-then-matches : goal.returns-then-matches
unfolding pick gated_written
returns-then-matches c =
    elim c.if-self.branch [
      | then-self w ↦ rw (c.write_sound.ensures, w.if-self.true)
      | else-self+in-1 w ↦ rw (c.write_sound.ensures, w.if-self.false, a_length _ w.in-1.is)
      | else-self+in_default w ↦ cc
    ]

pub returns-else-matches : goal.returns-else-matches
unfolding pick gated_written
returns-else-matches c =
    let at = c.args.at in
    elim c.if-self.branch [
      | then-self w ↦ cc
      | else-self+in-1 w ↦ cc
      | else-self+in_default w ↦
          rw (
            w.if-self.false,
            ne_eqb at 1 (grind arith),
            ne_eqb at 6 (grind arith),
            ne_eqb at 11 (grind arith),
            ne_eqb at 16 (grind arith),
          )
    ]
