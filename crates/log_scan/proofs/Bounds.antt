-- The sums over a log's records are small: each record takes two bytes and more, and asks for no more than 16,384 calls. Assumes nothing.
use Prim.Native.Nat.{ℕ, zero, suc, ◌+◌, ◌-◌, ◌*◌, ◌^◌, ◌≤◌, ◌<◌}
use mathlib.Core.Path.{◌≡◌, refl}
use mathlib.Core.List.{List, [], ◌∷◌}
use mathlib.Core.Bool.{Bool, true, false, ◌&&◌}
use native.Mathlib.Nat.{mul-le-mul_left, mul-add, mul-one, le_trans, le_refl, le_of_lt}
use native.Mathlib.Omega.{arith}
use borrow.Author.Tests.{leb-true, leb-false, ltb-false}
use lib.ListN.{length, get_or}
use lib.Dec.{leb, ltb}
use Rattle.std.specs.Prelude.{Option, None, Some, Ok, Err}
use Rattle.std.specs.Option.{option_or}
use Rattle.ground.specs.Pick.{pick}
use Rattle.ground.proofs.Cases.{pick_holds, both_ways, and_right}
use Rattle.log_records.specs.declared.divider.Divider.{Divider}
use Rattle.log_records.specs.Divider.{phase_of}
use Rattle.log_records.specs.declared.judge.Record.TheVariants.{Clock}
use Rattle.log_scan.specs.declared.answer.LogRefusal.TheVariants.{TooLong, BadStart, WrongRecord, TooShort}
use Rattle.log_records.specs.Judge.{Judged, wrong, word, write_of, read_of, divider_in, count_in, fair_of, clock_of, pcm_of, judge_of}
use Rattle.log_records.specs.Records.{Cut, cut_off, Parsed, cut_at, body_at, grow, parse, records_from, unrolled, listed_as, version_of, records_of}
use Rattle.log_scan.specs.Sums.{asks, halves_of, read_bytes_of, sum_of}
use Rattle.log_scan.specs.Scan.{wrong_mark, wrong_in, summed}
use Rattle.log_scan.specs.Answers.{LogAnswer, refusal_of, returned_of, bytes_by, or_wrong, scanned_as, scanned_from, within_room, Small}
use Rattle.clocks.specs.Calls.{K}
use Rattle.clocks.specs.Metered.{Held}
use Rattle.clocks.specs.declared.meter.Meter.{Meter}
use Rattle.clocks.proofs.Totals.{frames_le}
use Rattle.log_records.proofs.Framing.{body_fits}

pub record Low (r : Judged) : Type 0 where
  pub calls : asks r ≤ 16384
  pub halves : halves_of r ≤ 32768
  pub read_bytes : read_bytes_of r ≤ 3

nothing_low : (r : Judged) → asks r ≡ 0 → halves_of r ≡ 0 → read_bytes_of r ≤ 3 → Low r
nothing_low r a h l = record { calls = omega arith; halves = omega arith; read_bytes = l }

clock_low : (d : Bool) (v : Divider) (k : ℕ) → k ≤ 16384 → Low (Ok (Clock d v k))
clock_low true v k h = record { calls = h; halves = omega arith; read_bytes = omega arith }
clock_low false v k h = record { calls = h; halves = omega arith; read_bytes = omega arith }

wrong_low : Low wrong
wrong_low = nothing_low wrong refl refl (omega arith)

-- a count that the judge takes
count_le : (speed phase count : ℕ) → fair_of speed phase count ≡ true → count ≤ 16384
count_le speed phase count e =
    let rest = and_right (leb speed 1) (leb phase 63 && (leb 1 count && leb count 16384)) e in
    leb-true _ _ (and_right (leb 1 count) (leb count 16384) (and_right (leb phase 63) (leb 1 count && leb count 16384) rest))

-- what the judge says of any body
pub judged_low : (version : ℕ) (s : List ℕ) → Low (judge_of version s)
unfolding judge_of write_of read_of clock_of pcm_of
judged_low v s =
    both_ways Low _ wrong_low
    (both_ways Low _ (both_ways Low _ (both_ways Low _ (nothing_low _ refl refl (omega arith)) wrong_low) wrong_low)
    (both_ways Low _ (both_ways Low _ (both_ways Low _ (nothing_low _ refl refl (omega arith)) wrong_low) wrong_low)
    (both_ways Low _
    (both_ways Low _
    (pick_holds Low _ _ _ (λ e. clock_low _ _ _ (count_le (get_or s 1 0) (phase_of (divider_in v s)) (count_in v s) e)) (λ _. wrong_low))
    wrong_low)
    (both_ways Low _ (both_ways Low _ (nothing_low _ refl refl (omega arith)) wrong_low) wrong_low))))

-- a sum over the records from a place on
module _ (v : ℕ) (f : Judged → ℕ) (m : ℕ) (low : (s : List ℕ) → f (judge_of v s) ≤ m) where
  more : (x y a b : ℕ) → x ≤ m → y ≤ m * b → b + 1 ≤ a → x + y ≤ m * a
  more x y a b p q h =
      let k : m * (b + 1) ≤ m * a = mul-le-mul_left m h in
      let e : m * (b + 1) ≡ m * b + m * 1 = mul-add m b 1 in
      let i : m * 1 ≡ m = mul-one m in
      omega arith

  -- by what stands at the place, and what is known of the rest
  first_low : (s : List ℕ) (at : ℕ) (rest : ℕ → Parsed) (k : Cut) → cut_at s at ≡ k
      → ((n : ℕ) → sum_of f (unrolled (rest (at + 2 + n))) ≤ m * (length s - (at + 2 + n))) → sum_of f (unrolled (grow v s at rest k)) ≤ m * (length s - at)
  unfolding sum_of
  first_low s at rest (Ok None) e h = omega arith
  first_low s at rest (Err fault) e h = omega arith
  first_low s at rest (Ok (Some k)) e h =
      let b = body_fits s at k e in
      more _ _ (length s - at) (length s - (at + 2 + k)) (low (body_at s at k)) (h k) (omega arith)

  sum_low : (n : ℕ) (s : List ℕ) (at : ℕ) → sum_of f (unrolled (parse v n s at)) ≤ m * (length s - at)
  unfolding parse sum_of
  sum_low zero s at = omega arith
  sum_low (suc n) s at = first_low s at (parse v n s) (cut_at s at) refl (λ k. sum_low n s (at + 2 + k))

  pub records_low : (s : List ℕ) → length s ≤ 65536 → sum_of f (listed_as v s) ≤ m * 65536
  unfolding records_from
  records_low s h = le_trans (sum_low (length s) s 2) (mul-le-mul_left m (less (length s) h))
    where
      less : (n : ℕ) → n ≤ 65536 → n - 2 ≤ 65536
      less n k = omega arith

each_one : (l : List Judged) → sum_of (λ r. 1) l ≡ length l
unfolding sum_of
each_one [] = refl
each_one (r ∷ l) = omega (arith, each_one l)

-- the sums of a log that is not too long
module _ (v : ℕ) (s : List ℕ) (h : length s ≤ 65536) where
  pub calls_low : sum_of asks (listed_as v s) ≤ 1073741824
  calls_low = records_low v asks 16384 (λ b. (judged_low v b).calls) s h

  pub halves_low : sum_of halves_of (listed_as v s) ≤ 2147483648
  halves_low = records_low v halves_of 32768 (λ b. (judged_low v b).halves) s h

  pub read_bytes_low : sum_of read_bytes_of (listed_as v s) ≤ 196608
  read_bytes_low = records_low v read_bytes_of 3 (λ b. (judged_low v b).read_bytes) s h

  pub count_low : length (listed_as v s) ≤ 65536
  count_low = rw (← each_one (listed_as v s)) (records_low v (λ r. 1) 1 (λ b. le_refl 1) s h)

  bytes_low : (m : Meter) → Held K m → bytes_by m (summed (listed_as v s)) < 281474976710656
  bytes_low m k = let f = frames_le m (sum_of halves_of (listed_as v s)) k in omega (arith, halves_low, read_bytes_low)

  pub small : Small (summed (listed_as v s))
  small = record { halves = omega (arith, halves_low); read_bytes = omega (arith, read_bytes_low) }

-- ---- the number returned stays in 48 bits

-- where a record is cut short, the log has not ended
short_inside : (s : List ℕ) (at : ℕ) → cut_at s at ≡ cut_off → at ≤ length s
unfolding pick cut_at
short_inside s at e = go (leb (length s) at) refl e
  where
    go : (a : Bool) → leb (length s) at ≡ a
        → pick a (Ok None) (pick (ltb (length s - at) 2) cut_off (pick (ltb (length s - at - 2) (word s at)) cut_off (Ok (Some (word s at))))) ≡ cut_off
        → at ≤ length s
    go true x h = let f : ◌≡◌ {A = ℕ} 0 1 = cc in omega arith
    go false x h = le_of_lt (leb-false (length s) at x)

-- a mark lies within the log
abbrev Inside : ℕ → Option ℕ → Type 0
Inside top None = 0 ≤ top
Inside top (Some p) = p ≤ top

or_inside : (top : ℕ) (a b : Option ℕ) → Inside top a → Inside top b → Inside top (option_or a b)
or_inside top None b p q = q
or_inside top (Some p) b h q = h

mark_inside : (top place : ℕ) (r : Judged) → place ≤ top → Inside top (wrong_mark place r)
mark_inside top place (Ok r) h = omega arith
mark_inside top place (Err fault) h = h

first_inside : (v : ℕ) (s : List ℕ) (at : ℕ) (rest : ℕ → Parsed) (k : Cut) → cut_at s at ≡ k
    → ((n : ℕ) → Inside (length s) (wrong_in (rest (at + 2 + n)))) → Inside (length s) (wrong_in (grow v s at rest k))
unfolding wrong_in
first_inside v s at rest (Ok None) e h = omega arith
first_inside v s at rest (Err fault) e h = short_inside s at e
first_inside v s at rest (Ok (Some n)) e h =
    let b = body_fits s at n e in
    let r = judge_of v (body_at s at n) in
    or_inside (length s) (wrong_mark at r) (wrong_in (rest (at + 2 + n))) (mark_inside (length s) at r (omega arith)) (h n)

parsed_inside : (v n : ℕ) (s : List ℕ) (at : ℕ) → Inside (length s) (wrong_in (parse v n s at))
unfolding parse wrong_in
parsed_inside v zero s at = omega arith
parsed_inside v (suc n) s at = first_inside v s at (parse v n s) (cut_at s at) refl (λ k. parsed_inside v n s (at + 2 + k))

-- whatever the answer is made from
abbrev pub Packs : LogAnswer → Type 0
Packs a = returned_of a < 2 ^ 48

room_packs : (room : ℕ) (a : LogAnswer) → Packs a → Packs (within_room room a)
unfolding within_room
room_packs room (Ok played) h = both_ways Packs _ h h
room_packs room (Err r) h = h

wrong_packs : (top : ℕ) (m : Option ℕ) (a : LogAnswer) → top ≤ 65536 → Inside top m → Packs a → Packs (or_wrong m a)
wrong_packs top None a t i h = h
wrong_packs top (Some p) a t i h = omega arith

scanned_packs : (m : Meter) → Held K m → (s : List ℕ) → Packs (scanned_from m s)
unfolding scanned_as records_from
scanned_packs m k s =
    pick_holds Packs _ _ _ (λ _. omega arith)
    (λ e.
    let h : length s ≤ 65536 = ltb-false 65536 (length s) e in
    let inside = parsed_inside (version_of s) (length s) s 2 in
    both_ways Packs _ (omega arith) (wrong_packs (length s) (wrong_in (records_of s)) _ h inside (bytes_low (version_of s) s h m k)))

pub answer_packs : (m : Meter) → Held K m → (room : ℕ) (s : List ℕ) → Packs (within_room room (scanned_from m s))
answer_packs m k room s = room_packs room (scanned_from m s) (scanned_packs m k s)

pub refusal_le : (a : LogAnswer) → refusal_of a ≤ 6
refusal_le (Ok played) = omega arith
refusal_le (Err TooLong) = omega arith
refusal_le (Err BadStart) = omega arith
refusal_le (Err (WrongRecord p)) = omega arith
refusal_le (Err (TooShort n)) = omega arith
