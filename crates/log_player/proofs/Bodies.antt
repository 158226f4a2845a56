-- A body by itself: it is a write to one group exactly if it has four bytes, the first of them 01, and an address of one group. Assumes nothing.
use Prim.Native.Nat.{ℕ, ◌≤◌, ◌<◌}
use mathlib.Core.Path.{◌≡◌, refl, sym}
use mathlib.Core.Bool.{Bool, true, false, ◌&&◌}
use mathlib.Core.List.{List}
use native.Mathlib.Omega.{arith}
use borrow.Author.Tests.{eqb-true, eqb-false, ne_eqb, lt-ltb, le-ltb, leb-false}
use lib.Dec.{eqb, leb}
use lib.ListN.{length, get_or}
use Rattle.std.specs.Prelude.{None, Ok}
use Rattle.ground.specs.Pick.{pick}
use Rattle.ground.specs.Num.{is_sound}
use Rattle.ground.proofs.Cases.{both_ways, pick_true, pick_false, and_left, and_right}
use Rattle.log_records.specs.Judge.{Judged, wrong, word, write_of, read_of, clock_of, pcm_of, judge_of}
use Rattle.log_records.specs.declared.judge.Record.TheVariants.{Write}
use Rattle.log_player.specs.Bodies.{group_at, group_write_of, group_write_in}

-- a wrong address is no group's
low_none : (addr value : ℕ) → addr < 0xFF10 → group_at addr value ≡ None
unfolding group_at
low_none addr value l = let low : addr < 0xFF11 = omega arith in pick_true _ _ _ (lt-ltb addr 0xFF11 low)

high_none : (addr value : ℕ) → 0xFF3F < addr → group_at addr value ≡ None
unfolding group_at pick
high_none addr value l =
    let a : 0xFF11 ≤ addr = omega arith in
    let b : 0xFF15 ≤ addr = omega arith in
    let c : 0xFF1A ≤ addr = omega arith in
    let d : 0xFF1F ≤ addr = omega arith in
    let e : 0xFF24 ≤ addr = omega arith in
    rw (le-ltb addr 0xFF11 a, le-ltb addr 0xFF15 b, le-ltb addr 0xFF1A c, le-ltb addr 0xFF1F d, le-ltb addr 0xFF24 e)

judged_write : (addr value : ℕ) → group_write_of (pick (is_sound addr) (Ok (Write addr value)) wrong) ≡ group_at addr value
judged_write addr value = go (leb 0xFF10 addr) (leb addr 0xFF3F) refl refl
  where
    go : (a b : Bool) → leb 0xFF10 addr ≡ a → leb addr 0xFF3F ≡ b → group_write_of (pick (a && b) (Ok (Write addr value)) wrong) ≡ group_at addr value
    go true true x y = unfold pick in refl
    go true false x y = unfold pick in sym (high_none addr value (leb-false addr 0xFF3F y))
    go false b x y = unfold pick in sym (low_none addr value (leb-false 0xFF10 addr x))

-- ---- a write's body
write_grouped : (v : ℕ) (s : List ℕ) (power : Bool) → length s ≡ 4 → (power && eqb (get_or s 0 0) 1) ≡ true
    → pick power (group_write_of (judge_of v s)) None ≡ group_at (word s 1) (get_or s 3 0)
unfolding judge_of write_of pick
write_grouped v s power four e =
    rw (and_left power _ e, four, eqb-true (get_or s 0 0) 1 (and_right power _ e)) (judged_write (word s 1) (get_or s 3 0))

-- ---- any other
NoWrite : Judged → Type 0
NoWrite r = group_write_of r ≡ None

-- of no kind but 01 is one a write
others : (v : ℕ) (s : List ℕ) → NoWrite (write_of s) → NoWrite (judge_of v s)
unfolding judge_of read_of clock_of pcm_of NoWrite
others v s w =
    both_ways NoWrite _ refl
    (both_ways NoWrite _ w
    (both_ways NoWrite _ (both_ways NoWrite _ (both_ways NoWrite _ refl refl) refl)
    (both_ways NoWrite _ (both_ways NoWrite _ (both_ways NoWrite _ refl refl) refl)
    (both_ways NoWrite _ (both_ways NoWrite _ refl refl)
    refl))))

other_length : (v : ℕ) (s : List ℕ) (power : Bool) → (length s ≡ 4 → ⊥) → pick power (group_write_of (judge_of v s)) None ≡ None
unfolding write_of pick NoWrite
other_length v s true h = others v s (rw (ne_eqb (length s) 4 h))
other_length v s false h = refl

-- a body of another kind
kinds : (v : ℕ) (s : List ℕ) → eqb (get_or s 0 0) 1 ≡ false → NoWrite (judge_of v s)
unfolding judge_of read_of clock_of pcm_of NoWrite
kinds v s e =
    both_ways NoWrite _ refl
    (rw (pick_false _ _ _ e)
    (both_ways NoWrite _ (both_ways NoWrite _ (both_ways NoWrite _ refl refl) refl)
    (both_ways NoWrite _ (both_ways NoWrite _ (both_ways NoWrite _ refl refl) refl)
    (both_ways NoWrite _ (both_ways NoWrite _ refl refl)
    refl))))

other_kind : (v : ℕ) (s : List ℕ) (power : Bool) → (power && eqb (get_or s 0 0) 1) ≡ false → pick power (group_write_of (judge_of v s)) None ≡ None
unfolding pick NoWrite
other_kind v s true e = kinds v s e
other_kind v s false e = refl

-- "01 addr value" is a write in every version, and nothing else is one
pub group-written : (v : ℕ) (s : List ℕ) (power : Bool) → group_write_in s power ≡ pick power (group_write_of (judge_of v s)) None
unfolding group_write_in
group-written v s power = go (eqb (length s) 4) (power && eqb (get_or s 0 0) 1) refl refl
  where
    go : (a b : Bool) → eqb (length s) 4 ≡ a → (power && eqb (get_or s 0 0) 1) ≡ b
        → pick a (pick b (group_at (word s 1) (get_or s 3 0)) None) None ≡ pick power (group_write_of (judge_of v s)) None
    go true true x y = unfold pick in sym (write_grouped v s power (eqb-true (length s) 4 x) y)
    go true false x y = unfold pick in sym (other_kind v s power y)
    go false b x y = unfold pick in sym (other_length v s power (eqb-false (length s) 4 x))
