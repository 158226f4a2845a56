-- What a row of records has is what its first record has, joined to what the others have: so the scan may join as it goes. Assumes nothing.
use Prim.Native.Nat.{ℕ, suc, ◌+◌, ◌≤◌, ◌<◌}
use mathlib.Core.Path.{◌≡◌, refl, sym, ◌∙◌, ap}
use mathlib.Core.List.{List, [], ◌∷◌, ◌++◌}
use native.Mathlib.Omega.{arith}
use native.Mathlib.Nat.{add_assoc, add-zero, zero-add}
use lib.ListN.{length, length-append}
use Rattle.std.specs.Prelude.{Option, None, Some, Ok}
use Rattle.std.specs.Option.{option_or}
use Rattle.log_records.specs.Judge.{Judged}
use Rattle.log_scan.specs.declared.scan.Found.{Found}
use Rattle.log_scan.specs.declared.scan.Sums.{Sums}
use Rattle.log_records.specs.Records.{cut_off, Parsed, item, cut_at, records_from, unrolled}
use Rattle.log_scan.specs.Sums.{asks, halves_of, read_bytes_of, sum_of}
use Rattle.log_scan.specs.Scan.{Fits, wrong_in, summed, added, both, nothing, found_in, found_all}
use Rattle.log_records.proofs.Framing.{at_end, at_short}
use Rattle.log_scan.proofs.Bounds.{calls_low, halves_low, read_bytes_low, count_low}

or_assoc : (a b c : Option ℕ) → option_or (option_or a b) c ≡ option_or a (option_or b c)
or_assoc None b c = refl
or_assoc (Some p) b c = refl

or_none : (a : Option ℕ) → option_or a None ≡ a
or_none None = refl
or_none (Some p) = refl

-- where nothing is wrong in the second, the first one's place stays as it is
good_both : (a b : Found) → b.wrong ≡ None → (◌≡◌ {A = Found} (record { wrong = a.wrong; sums = added a.sums b.sums }) (both a b))
good_both a b e = ap (λ (m : Option ℕ). record { wrong = m; sums = added a.sums b.sums }) (sym (ap (option_or a.wrong) e ∙ or_none a.wrong))

both_assoc : (a b c : Found) → both (both a b) c ≡ both a (both b c)
both_assoc a b c =
    rw (
      or_assoc a.wrong b.wrong c.wrong,
      add_assoc a.sums.records b.sums.records c.sums.records,
      add_assoc a.sums.calls b.sums.calls c.sums.calls,
      add_assoc a.sums.halves b.sums.halves c.sums.halves,
      add_assoc a.sums.read_bytes b.sums.read_bytes c.sums.read_bytes,
    )

both_none : (a : Found) → both a nothing ≡ a
both_none a = rw (or_none a.wrong, add-zero a.sums.records, add-zero a.sums.calls, add-zero a.sums.halves, add-zero a.sums.read_bytes)

none_both : (a : Found) → both nothing a ≡ a
none_both a = rw (zero-add a.sums.records, zero-add a.sums.calls, zero-add a.sums.halves, zero-add a.sums.read_bytes)

one_more : (n : ℕ) → 1 + n ≡ suc n
one_more n = omega arith

-- one row of records after another
sum_append : (f : Judged → ℕ) (xs ys : List Judged) → sum_of f (xs ++ ys) ≡ sum_of f xs + sum_of f ys
unfolding sum_of
sum_append f [] ys = sym (zero-add (sum_of f ys))
sum_append f (r ∷ xs) ys = ap (λ (n : ℕ). f r + n) (sum_append f xs ys) ∙ sym (add_assoc (f r) (sum_of f xs) (sum_of f ys))

pub summed_append : (xs ys : List Judged) → summed (xs ++ ys) ≡ added (summed xs) (summed ys)
summed_append xs ys = rw (length-append xs ys, sum_append asks xs ys, sum_append halves_of xs ys, sum_append read_bytes_of xs ys)

-- THE LAW
found_item : (p : ℕ) (r : Judged) (rest : Parsed) → found_all (item p r rest) ≡ both (found_in p r) (found_all rest)
unfolding wrong_in sum_of
found_item p r rest = rw (one_more (length (unrolled rest)))

-- the loop's invariant: what was found, joined to what the rest have, is what all have
pub record Going (v : ℕ) (s : List ℕ) (at : ℕ) (t : Found) : Type 0 where
  pub state : both t (found_all (records_from v s at)) ≡ found_all (records_from v s 2)
  pub inside : at ≤ length s + 2

pub begun : (v : ℕ) (s : List ℕ) → Going v s 2 nothing
begun v s = record { state = none_both (found_all (records_from v s 2)); inside = omega arith }

module _ {v : ℕ} {s : List ℕ} {at : ℕ} {t : Found} (g : Going v s at t) where
  pub ended : cut_at s at ≡ Ok None → t ≡ found_all (records_from v s 2)
  unfolding wrong_in sum_of
  ended e = sym (both_none t) ∙ rw (at_end v s at e) at g.state

  -- a part of a sum that is not above 2 ^ 32
  part : (a c d top : ℕ) → a + c ≡ d → d ≤ top → top ≤ 4294967296 → a < 18446744073709551616
  part a c d top p q r = omega arith

  -- a record cut short adds nothing to the sums
  pub cut_short : cut_at s at ≡ cut_off → ◌≡◌ {A = Found} (record { wrong = option_or t.wrong (Some at); sums = t.sums }) (found_all (records_from v s 2))
  unfolding wrong_in sum_of
  cut_short e =
      let sums = ap (λ (x : Found). x.sums) (both_none t) in
      ap (λ (x : Sums). record { wrong = option_or t.wrong (Some at); sums = x }) (sym sums) ∙ rw (at_short v s at e) at g.state

  -- the next record, and where the one after it begins
  module _ (r : Judged) (next : ℕ) (is : records_from v s at ≡ item at r (records_from v s next)) where
    abbrev f : Found
    f = found_in at r

    abbrev rest : Found
    rest = found_all (records_from v s next)

    state : both (both t f) rest ≡ found_all (records_from v s 2)
    state = both_assoc t f rest ∙ ap (both t) (sym (found_item at r (records_from v s next))) ∙ rw is at g.state

    pub turn : next ≤ length s → Going v s next (both t f)
    turn h = record { state = state; inside = omega arith }

    -- where it is right
    pub turn_good : f.wrong ≡ None → next ≤ length s → Going v s next (record { wrong = t.wrong; sums = added t.sums f.sums })
    turn_good e h = rw (good_both t f e) (turn h)

    pub fits : length s ≤ 65536 → Fits t.sums f.sums
    fits h =
        record {
          records = part _ rest.sums.records _ _ (ap (λ (x : Found). x.sums.records) state) (count_low v s h) (omega arith);
          calls = part _ rest.sums.calls _ _ (ap (λ (x : Found). x.sums.calls) state) (calls_low v s h) (omega arith);
          halves = part _ rest.sums.halves _ _ (ap (λ (x : Found). x.sums.halves) state) (halves_low v s h) (omega arith);
          read_bytes = part _ rest.sums.read_bytes _ _ (ap (λ (x : Found). x.sums.read_bytes) state) (read_bytes_low v s h) (omega arith);
        }
