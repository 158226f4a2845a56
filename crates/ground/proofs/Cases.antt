-- A test that was passed picks the case of a definition, and what holds of both cases holds of the choice. Assumes nothing.
use mathlib.Core.Path.{◌≡◌, refl}
use mathlib.Core.Bool.{Bool, true, false, ◌&&◌}
use borrow.Author.Rules.{rules}
use borrow.Author.Tests.{eq-eqb, ne_eqb, lt-ltb, le-ltb, le-leb, lt-leb}
use Rattle.ground.specs.Pick.{pick}

pub pick_true : {A : Type 0} (b : Bool) (x y : A) → b ≡ true → pick b x y ≡ x
unfolding pick
pick_true b x y e = rw e

pub pick_false : {A : Type 0} (b : Bool) (x y : A) → b ≡ false → pick b x y ≡ y
unfolding pick
pick_false b x y e = rw e

-- what a `return` after a test is proved by
pub ruleset cases = (rules, eq-eqb, ne_eqb, lt-ltb, le-ltb, le-leb, lt-leb, pick_true, pick_false)

-- what holds of each way, given its test, holds of the choice
pub pick_holds : {A : Type 0} (P : A → Type 0) (b : Bool) (x y : A) → (b ≡ true → P x) → (b ≡ false → P y) → P (pick b x y)
unfolding pick
pick_holds P true x y p q = p refl
pick_holds P false x y p q = q refl

-- the same where neither way leans on the test
pub both_ways : {A : Type 0} (P : A → Type 0) (b : Bool) {x y : A} → P x → P y → P (pick b x y)
unfolding pick
both_ways P true p q = p
both_ways P false p q = q

-- what a test by `&` says of its first half
pub and_left : (b d : Bool) → (b && d) ≡ true → b ≡ true
and_left true d e = refl
and_left false d e = e

-- and of its second
pub and_right : (b d : Bool) → (b && d) ≡ true → d ≡ true
and_right true d e = e
and_right false d e = cc
