-- The byte says which case holds. Assumes nothing.
use Prim.{⊥}
use Prim.Native.Nat.{ℕ, ◌≤◌, ◌+◌, ◌%◌}
use mathlib.Core.Path.{◌≡◌}
use native.Mathlib.Omega.{arith}
use borrow.Author.Tests.{ne_eqb, le-leb, lt-leb}
use Rattle.ground.specs.Pick.{pick}
use Rattle.log_vgm.specs.Commands.{takes, waits_of, short_of}
use Rattle.log_vgm.proofs.command.short_of.Goals as goal

wait_in_range : (first : ℕ) → 0x70 ≤ first → first ≤ 0x7F → takes (waits_of (first % 16 + 1)) ≡ short_of first
unfolding short_of pick
wait_in_range first lo hi =
    let a : first ≡ 0x62 → ⊥ = omega arith in
    let b : first ≡ 0x63 → ⊥ = omega arith in
    let d : first ≡ 0x66 → ⊥ = omega arith in
    rw (ne_eqb _ _ a, ne_eqb _ _ b, ne_eqb _ _ d, le-leb _ _ lo, le-leb _ _ hi)

pub returns-in-98 : goal.returns-in-98
unfolding short_of pick
returns-in-98 c = rw (c.waits.ensures, c.in-98.is)

pub returns-in-99 : goal.returns-in-99
unfolding short_of pick
returns-in-99 c = rw (c.waits-in-99.ensures, c.in-99.is)

pub returns-in-102 : goal.returns-in-102
unfolding short_of pick
returns-in-102 c = rw c.in-102.is

pub returns-in-112-to-127 : goal.returns-in-112-to-127
returns-in-112-to-127 c = rw c.waits-in-112-to-127.ensures (wait_in_range _ (omega arith) (omega arith))

pub returns-in_default : goal.returns-in_default
unfolding short_of pick
returns-in_default c =
    let first = c.args.first in
    let a : first ≡ 0x62 → ⊥ = omega arith in
    let b : first ≡ 0x63 → ⊥ = omega arith in
    let d : first ≡ 0x66 → ⊥ = omega arith in
    rw (ne_eqb _ _ a, ne_eqb _ _ b, ne_eqb _ _ d, lt-leb 0x70 first (omega arith))

pub returns-in_default-2 : goal.returns-in_default-2
unfolding short_of pick
returns-in_default-2 c =
    let first = c.args.first in
    let a : first ≡ 0x62 → ⊥ = omega arith in
    let b : first ≡ 0x63 → ⊥ = omega arith in
    let d : first ≡ 0x66 → ⊥ = omega arith in
    rw (ne_eqb _ _ a, ne_eqb _ _ b, ne_eqb _ _ d, le-leb 0x70 first (omega arith), lt-leb first 0x7F (omega arith))
