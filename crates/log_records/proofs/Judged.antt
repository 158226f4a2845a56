-- What is known of a record that the judge takes. Assumes nothing.
use Prim.Native.Nat.{ℕ, ◌≤◌}
use mathlib.Core.Path.{◌≡◌, refl, sym, ap, subst}
use mathlib.Core.List.{List}
use mathlib.Core.Bool.{Bool, true, false, ◌&&◌}
use native.Mathlib.Omega.{arith}
use lib.Dec.{leb, eqb}
use lib.ListN.{length, get_or}
use borrow.Author.Tests.{leb-true, eqb-true, eq-eqb, ne_eqb}
use Rattle.std.specs.Prelude.{Some, None, Ok, Err}
use Rattle.ground.specs.Pick.{pick}
use Rattle.ground.proofs.Cases.{both_ways, pick_holds, pick_false, and_left, and_right}
use Rattle.log_records.specs.Divider.{phase_of}
use Rattle.log_records.specs.Judge.{Judged, wrong, write_of, read_of, clock_of, pcm_of, judge_of, clocks_of}
use Rattle.log_records.specs.Judge.{clock_length, divider_in, count_in, fair_of}
use Rattle.log_records.specs.declared.divider.Divider.{Divider}
use Rattle.log_records.specs.declared.judge.Clocks.{Clocks}
use Rattle.log_records.specs.declared.judge.Record.TheVariants.{Write, Read, Clock, Pcm}

-- some calls, and no more than 16,384
abbrev Few : Judged → Type 0
Few (Ok (Write addr value)) = Unit
Few (Ok (Read addr)) = Unit
Few (Ok (Clock double divider count)) = (1 ≤ count) × (count ≤ 16384)
Few (Ok Pcm) = Unit
Few (Err fault) = Unit

fair_few : (speed phase count : ℕ) → fair_of speed phase count ≡ true → (1 ≤ count) × (count ≤ 16384)
fair_few speed phase count e =
    let rest = and_right (leb speed 1) (leb phase 63 && (leb 1 count && leb count 16384)) e in
    let both = and_right (leb phase 63) (leb 1 count && leb count 16384) rest in
    (leb-true 1 count (and_left (leb 1 count) _ both), leb-true count 16384 (and_right (leb 1 count) _ both))

clock_is_few : (version : ℕ) (s : List ℕ) → Few (clock_of version s)
unfolding clock_of
clock_is_few v s =
    both_ways Few _
    (pick_holds Few _ (Ok (Clock _ _ (count_in v s))) wrong (fair_few (get_or s 1 0) (phase_of (divider_in v s)) (count_in v s)) (λ _. tt))
    tt

judged_few : (version : ℕ) (s : List ℕ) → Few (judge_of version s)
unfolding judge_of write_of read_of pcm_of
judged_few v s =
    both_ways Few _ tt
    (both_ways Few _ (both_ways Few _ (both_ways Few _ tt tt) tt)
    (both_ways Few _ (both_ways Few _ (both_ways Few _ tt tt) tt)
    (both_ways Few _ (clock_is_few v s)
    (both_ways Few _ (both_ways Few _ tt tt)
    tt))))

pub clock_few : (version : ℕ) (s : List ℕ) (double : Bool) (divider : Divider) (count : ℕ)
    → judge_of version s ≡ Ok (Clock double divider count) → count ≤ 16384
clock_few v s double divider count e = (subst Few e (judged_few v s)).1

-- ---- a body of a clock record's length: one, by its kind, speed, phase and count, or none
pub clock_long : (version : ℕ) → (5 ≤ clock_length version) × (clock_length version ≤ 6)
unfolding clock_length
clock_long v = both_ways (λ (n : ℕ). (5 ≤ n) × (n ≤ 6)) _ (omega arith, omega arith) (omega arith, omega arith)

other_kind : (end version : ℕ) (s : List ℕ) → eqb (get_or s 0 0) 3 ≡ false → clocks_of end (judge_of version s) ≡ None
unfolding judge_of write_of read_of pcm_of
other_kind end v s e =
    both_ways NoClocks _ refl
    (both_ways NoClocks _ (both_ways NoClocks _ (both_ways NoClocks _ refl refl) refl)
    (both_ways NoClocks _ (both_ways NoClocks _ (both_ways NoClocks _ refl refl) refl)
    (rw (pick_false _ _ _ e) (both_ways NoClocks _ (both_ways NoClocks _ refl refl) refl))))
  where
    NoClocks : Judged → Type 0
    NoClocks r = clocks_of end r ≡ None

module _ (end v : ℕ) (s : List ℕ) (long : length s ≡ clock_length v) where
  clock-kind : eqb (get_or s 0 0) 3 ≡ true → judge_of v s ≡ clock_of v s
  unfolding judge_of pick
  clock-kind e =
      let some : length s ≡ 0 → ⊥ = λ z. omega (arith, clock_long v, long, z) in
      rw (ne_eqb (length s) 0 some, eqb-true (get_or s 0 0) 3 e)

  abbrev fair : Bool
  fair = fair_of (get_or s 1 0) (phase_of (divider_in v s)) (count_in v s)

  pub clocks_right : (eqb (get_or s 0 0) 3 && fair) ≡ true
      → clocks_of end (judge_of v s) ≡ Some (record { double = eqb (get_or s 1 0) 1; divider = divider_in v s; count = count_in v s; end = end })
  unfolding clock_of pick
  clocks_right e =
      rw (clock-kind (and_left (eqb (get_or s 0 0) 3) fair e), eq-eqb _ _ long, and_right (eqb (get_or s 0 0) 3) fair e)

  pub clocks_none : (eqb (get_or s 0 0) 3 && fair) ≡ false → clocks_of end (judge_of v s) ≡ None
  unfolding clock_of pick
  clocks_none e = go (eqb (get_or s 0 0) 3) refl e
    where
      go : (b : Bool) → eqb (get_or s 0 0) 3 ≡ b → (b && fair) ≡ false → clocks_of end (judge_of v s) ≡ None
      go true k h = rw (clock-kind k, eq-eqb _ _ long, h)
      go false k h = other_kind end v s k

-- ---- and the record that it is
pub clock_is : (end : ℕ) (r : Judged) {c : Clocks} → clocks_of end r ≡ Some c → r ≡ Ok (Clock c.double c.divider c.count)
clock_is end (Ok (Write addr value)) e = let z : ◌≡◌ {A = ℕ} 0 1 = cc in absurd (omega arith)
clock_is end (Ok (Read addr)) e = let z : ◌≡◌ {A = ℕ} 0 1 = cc in absurd (omega arith)
clock_is end (Ok (Clock double divider count)) {c} e =
    let same : record { double = double; divider = divider; count = count; end = end } ≡ c = cc in
    ap (λ (x : Clocks). Ok (Clock x.double x.divider x.count)) same
clock_is end (Ok Pcm) e = let z : ◌≡◌ {A = ℕ} 0 1 = cc in absurd (omega arith)
clock_is end (Err fault) e = let z : ◌≡◌ {A = ℕ} 0 1 = cc in absurd (omega arith)

-- which ends where it was said
pub clock_ends : (end : ℕ) (r : Judged) {c : Clocks} → clocks_of end r ≡ Some c → c.end ≡ end
clock_ends end (Ok (Write addr value)) e = let z : ◌≡◌ {A = ℕ} 0 1 = cc in absurd (omega arith)
clock_ends end (Ok (Read addr)) e = let z : ◌≡◌ {A = ℕ} 0 1 = cc in absurd (omega arith)
clock_ends end (Ok (Clock double divider count)) {c} e =
    let same : record { double = double; divider = divider; count = count; end = end } ≡ c = cc in
    sym (ap (λ (x : Clocks). x.end) same)
clock_ends end (Ok Pcm) e = let z : ◌≡◌ {A = ℕ} 0 1 = cc in absurd (omega arith)
clock_ends end (Err fault) e = let z : ◌≡◌ {A = ℕ} 0 1 = cc in absurd (omega arith)

pub clocks_few : (end version : ℕ) (s : List ℕ) {c : Clocks} → clocks_of end (judge_of version s) ≡ Some c → (1 ≤ c.count) × (c.count ≤ 16384)
clocks_few end v s e = subst Few (clock_is end (judge_of v s) e) (judged_few v s)
