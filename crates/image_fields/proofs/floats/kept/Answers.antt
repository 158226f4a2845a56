-- Field and digits of the pattern decide it: by the laws of proofs/Keeping.antt. Assumes nothing.
use borrow.Author.Rules.{rules}
use borrow.Author.Tests.{ne_eqb, eq-eqb, leb-false}
use mathlib.Core.Path.{◌≡◌, refl, sym}
use mathlib.Core.Logic.{◌⊎◌, inl, inr}
use mathlib.Core.Bool.{Bool, true, false, ◌&&◌}
use Prim.Native.Nat.{ℕ, ◌-◌, ◌/◌, ◌≤◌, ◌<◌}
use lib.Dec.{leb}
use Rattle.std.proofs.lemmas.Grind.{common_steps}
use lib.Pow.{pow_pos}
use native.Mathlib.Nat.{lt_of_not-le}
use native.Mathlib.Omega.{arith}
use Rattle.image_fields.proofs.Keeping.{bits_zero, bits_small, bits_middle, bits_large}
use Rattle.image_fields.proofs.floats.kept.Goals as goal

above : (n : ℕ) → (n ≡ 0 → ⊥) → 0 < n
above n h = lt_of_not-le (λ (g : n ≤ 0). h (omega arith))

outside : (a b x : ℕ) → leb a x && leb x b ≡ false → x < a ⊎ b < x
outside a b x h = go (leb a x) (leb x b) refl refl h
  where
    go : (p q : Bool) → leb a x ≡ p → leb x b ≡ q → p && q ≡ false → x < a ⊎ b < x
    go true true e f h = cc
    go true false e f h = inr (leb-false x b f)
    go false q e f h = inl (leb-false a x e)

pub returns-then-field-eq0 : goal.returns-then-field-eq0
returns-then-field-eq0 c = sym (bits_zero _ _ c.requires c.args.pattern c.if-field-eq0.true)

pub overflow_sub-places : goal.overflow_sub-places
overflow_sub-places c = let deep = c.requires.deep in omega (arith, deep)

pub returns-then-not-contains : goal.returns-then-not-contains
returns-then-not-contains c =
    let a = c.args in
    let v : leb (1023 - a.places) (a.pattern / 4503599627370496) && leb (a.pattern / 4503599627370496) (1075 - a.places) ≡ false = search rules in
    elim (outside _ _ _ v) [
      | inl low ↦ sym (bits_small _ _ c.requires a.pattern (above _ c.if-field-eq0.false) low)
      | inr high ↦ sym (bits_large _ _ c.requires a.pattern high)
    ]

pub nonzero_rem-whole : goal.nonzero_rem-whole
nonzero_rem-whole c = rw c.power-unit.ensures (pow_pos _)

pub returns-then-whole-unit-ne0 : goal.returns-then-whole-unit-ne0
returns-then-whole-unit-ne0 c =
    let power = c.power-unit in
    let within : c.args.pattern / 4503599627370496 ≤ 1075 - c.args.places = grind (arith, common_steps) in
    rw (bits_middle _ _ c.requires c.args.pattern (above _ c.if-field-eq0.false) within, ← power.ensures, ne_eqb _ _ c.if-whole-unit-ne0.true)

pub nonzero_div-result : goal.nonzero_div-result
nonzero_div-result c = rw c.power-unit.ensures (pow_pos _)

pub returns : goal.returns
returns c =
    let power = c.power-unit in
    let within : c.args.pattern / 4503599627370496 ≤ 1075 - c.args.places = grind (arith, common_steps) in
    rw (bits_middle _ _ c.requires c.args.pattern (above _ c.if-field-eq0.false) within, ← power.ensures, eq-eqb _ _ c.if-whole-unit-ne0.false)
