-- How a loop walks a log: what the records from a place on are, by what stands there. Assumes nothing.
use Prim.Native.Nat.{ℕ, ◌+◌, ◌-◌, ◌≤◌, ◌<◌}
use mathlib.Core.Path.{◌≡◌, refl, ◌∙◌, ap}
use mathlib.Core.List.{List, [], ◌∷◌}
use mathlib.Core.Bool.{Bool, true, false}
use native.Mathlib.Omega.{arith}
use borrow.Author.Tests.{ltb-false, leb-false, leb-true, eqb-true, lt-leb, le-ltb}
use lib.ListN.{length}
use lib.Dec.{ltb, leb, eqb}
use Rattle.std.specs.Prelude.{Ok, Some, None}
use Rattle.ground.specs.Pick.{pick}
use Rattle.log_records.specs.declared.judge.Record.TheVariants.{Clock}
use Rattle.log_records.specs.declared.judge.Clocks.{Clocks}
use Rattle.log_records.specs.Judge.{Judged, word, clock_length, judge_of, clocks_of}
use Rattle.log_records.specs.Records.{cut_off, done, short, item, cut_at, body_at, clocks_at, clock_end, grow, records_from, records_step, unrolled}
use Rattle.log_records.proofs.Judged.{clock_long, clock_is, clock_ends, clocks_few}

-- a body lies within its log
pub body_fits : (s : List ℕ) (at n : ℕ) → cut_at s at ≡ Ok (Some n) → at + 2 + n ≤ length s
unfolding pick cut_at
body_fits s at n e = go (leb (length s) at) (ltb (length s - at) 2) (ltb (length s - at - 2) (word s at)) refl refl refl e
  where
    go : (a b c : Bool) → leb (length s) at ≡ a → ltb (length s - at) 2 ≡ b → ltb (length s - at - 2) (word s at) ≡ c
        → pick a (Ok None) (pick b cut_off (pick c cut_off (Ok (Some (word s at))))) ≡ Ok (Some n) → at + 2 + n ≤ length s
    go true b c x y z h = let f : ◌≡◌ {A = ℕ} 0 1 = cc in omega arith
    go false true c x y z h = let f : ◌≡◌ {A = ℕ} 0 1 = cc in omega arith
    go false false true x y z h = let f : ◌≡◌ {A = ℕ} 0 1 = cc in omega arith
    go false false false x y z h =
        let f : word s at ≡ n = cc in
        omega (
          arith,
          leb-false (length s) at x,
          ltb-false (length s - at) 2 y,
          ltb-false (length s - at - 2) (word s at) z,
        )

-- and its length is what its two bytes say
pub body_is : (s : List ℕ) (at n : ℕ) → cut_at s at ≡ Ok (Some n) → word s at ≡ n
unfolding pick cut_at
body_is s at n e = go (leb (length s) at) (ltb (length s - at) 2) (ltb (length s - at - 2) (word s at)) e
  where
    go : (a b c : Bool) → pick a (Ok None) (pick b cut_off (pick c cut_off (Ok (Some (word s at))))) ≡ Ok (Some n) → word s at ≡ n
    go true b c h = cc
    go false true c h = cc
    go false false true h = cc
    go false false false h = cc

-- a log ends at its end
pub end_past : (s : List ℕ) (at : ℕ) → cut_at s at ≡ Ok None → length s ≤ at
unfolding pick cut_at
end_past s at e = go (leb (length s) at) (ltb (length s - at) 2) (ltb (length s - at - 2) (word s at)) refl e
  where
    go : (a b c : Bool) → leb (length s) at ≡ a → pick a (Ok None) (pick b cut_off (pick c cut_off (Ok (Some (word s at))))) ≡ Ok None → length s ≤ at
    go true b c x h = leb-true (length s) at x
    go false true c x h = let f : ◌≡◌ {A = ℕ} 0 1 = cc in omega arith
    go false false true x h = let f : ◌≡◌ {A = ℕ} 0 1 = cc in omega arith
    go false false false x h = let f : ◌≡◌ {A = ℕ} 0 1 = cc in omega arith

-- two bytes and a body of the length that they say
pub some_cut : (s : List ℕ) (at n : ℕ) → at + 2 + n ≤ length s → word s at ≡ n → cut_at s at ≡ Ok (Some n)
unfolding cut_at pick
some_cut s at n h e =
    let here : at < length s = omega arith in
    let two : 2 ≤ length s - at = omega arith in
    let rest : n ≤ length s - at - 2 = omega arith in
    rw (lt-leb (length s) at here, le-ltb (length s - at) 2 two, e, le-ltb (length s - at - 2) n rest)

-- the records from a place on
module _ (v : ℕ) (s : List ℕ) (at : ℕ) where
  pub at_end : cut_at s at ≡ Ok None → records_from v s at ≡ done
  at_end e = records_step v s at ∙ ap (grow v s at (records_from v s)) e

  pub at_short : cut_at s at ≡ cut_off → records_from v s at ≡ short at
  at_short e = records_step v s at ∙ ap (grow v s at (records_from v s)) e

  pub at_body : (n : ℕ) → cut_at s at ≡ Ok (Some n) → records_from v s at ≡ item at (judge_of v (body_at s at n)) (records_from v s (at + 2 + n))
  at_body n e = records_step v s at ∙ ap (grow v s at (records_from v s)) e

  -- and without their places
  pub list_end : cut_at s at ≡ Ok None → unrolled (records_from v s at) ≡ []
  list_end e = ap unrolled (at_end e)

  pub list_short : cut_at s at ≡ cut_off → unrolled (records_from v s at) ≡ []
  list_short e = ap unrolled (at_short e)

  pub list_body : (n : ℕ) → cut_at s at ≡ Ok (Some n) → unrolled (records_from v s at) ≡ judge_of v (body_at s at n) ∷ unrolled (records_from v s (at + 2 + n))
  list_body n e = ap unrolled (at_body n e)

-- ---- a clock record at a place: it is the next record, and the one after it begins behind its body
pub record Stands (v : ℕ) (s : List ℕ) (at : ℕ) (c : Clocks) : Type 0 where
  pub further : at + 7 ≤ clock_end v at
  pub fits : clock_end v at ≤ length s
  pub ends : c.end ≡ clock_end v at
  pub some : 1 ≤ c.count
  pub few : c.count ≤ 16384
  pub is : records_from v s at ≡ item at (Ok (Clock c.double c.divider c.count)) (records_from v s (clock_end v at))

pub clocks_stand : (v : ℕ) (s : List ℕ) (at : ℕ) {c : Clocks} → clocks_at v s at ≡ Some c → Stands v s at c
unfolding clocks_at pick
clocks_stand v s at {c} = go (leb (at + 2 + n) (length s)) (eqb (word s at) n) refl refl
  where
    n : ℕ
    n = clock_length v

    body : List ℕ
    body = body_at s at n

    go : (a b : Bool) → leb (at + 2 + n) (length s) ≡ a → eqb (word s at) n ≡ b
        → pick a (pick b (clocks_of (clock_end v at) (judge_of v body)) None) None ≡ Some c → Stands v s at c
    go true true x y e =
        let fits = leb-true (at + 2 + n) (length s) x in
        let few = clocks_few (clock_end v at) v body e in
        record {
          further = omega (arith, clock_long v);
          fits = fits;
          ends = clock_ends (clock_end v at) (judge_of v body) e;
          some = few.0;
          few = few.1;
          is =
              at_body v s at n (some_cut s at n fits (eqb-true (word s at) n y))
              ∙ ap (λ (r : Judged). item at r (records_from v s (at + 2 + n))) (clock_is (clock_end v at) (judge_of v body) e);
        }
    go true false x y e = let z : ◌≡◌ {A = ℕ} 0 1 = cc in absurd (omega arith)
    go false b x y e = let z : ◌≡◌ {A = ℕ} 0 1 = cc in absurd (omega arith)
