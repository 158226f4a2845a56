-- With `len` at least 2, `place <= len - 2` is `place + 2 <= len`. Assumes nothing.
use mathlib.Core.Path.{◌≡◌, refl}
use Prim.Native.Nat.{ℕ, ◌+◌, ◌-◌, ◌≤◌}
use mathlib.Core.Bool.{Bool, true, false}
use native.Mathlib.Omega.{arith}
use lib.Dec.{leb}
use borrow.Author.Tests.{lt-leb, le-leb, leb-true, leb-false}
use Rattle.frame.specs.Buffers.{room_in}
use Rattle.frame.proofs.buffers.has_room.Statement.{statement}
use Rattle.frame.proofs.buffers.has_room.Tie as tie

moved : (len place : ℕ) (b : Bool) → leb place (len - 2) ≡ b → 2 ≤ len → b ≡ leb (place + 2) len
moved len place true e h = rw (le-leb (place + 2) len (omega (arith, leb-true place (len - 2) e)))
moved len place false e h = rw (lt-leb (place + 2) len (omega (arith, leb-false place (len - 2) e)))

pub has_room_spec : {M : Type 1} → statement M
unfolding room_in
has_room_spec =
    tie.close
    (tie.spec
    (λ c. rw (lt-leb (c.before.args.place + 2) c.before.args.len (omega arith)))
    (λ c. moved c.before.args.len c.before.args.place _ refl (omega arith)))
