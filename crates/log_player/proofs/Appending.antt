-- One row of records after another: bytes, frames and unit of the second are those from the unit that the first leaves, which is in its ranges again.
-- Assumes nothing.
use Prim.Native.Nat.{ℕ, zero, suc, ◌+◌, ◌≤◌}
use mathlib.Core.Path.{◌≡◌, refl, sym, ◌∙◌, ap, ap₂}
use mathlib.Core.List.{List, [], ◌∷◌, ◌++◌, append_assoc}
use native.Mathlib.Nat.{zero-add, add_assoc}
use native.Mathlib.Omega.{arith}
use mathlib.Core.Bool.{true, false}
use lib.ListN.{length, get_or, take, drop, length-append}
use Rattle.std.specs.Prelude.{None, Ok, Err, Some}
use Rattle.ground.specs.Pick.{pick}
use Rattle.ground.proofs.Cases.{both_ways}
use Rattle.apu.specs.Held.{Held, FloatsHeld}
use Rattle.apu.specs.declared.Apu.{Apu}
use Rattle.apu.proofs.Ranges.{write_held}
use Rattle.apu.proofs.Floats.{write_floats}
use Rattle.apu_run.proofs.Rows.{clocks_held, clocks_floats}
use Rattle.log_records.specs.declared.judge.Record.TheVariants.{Write, Read, Clock, Pcm}
use Rattle.log_records.specs.Judge.{Judged, write_of, read_of, clock_of, pcm_of, judge_of}
use Rattle.log_records.specs.Records.{Cut, Parsed, cut_at, body_at, grow, parse, records_from, unrolled, version_of, records_of, listed}
use Rattle.log_records.proofs.Joining.{get_d_drop}
use Rattle.log_scan.specs.Scan.{wrong_in, summed, added}
use Rattle.log_scan.specs.Answers.{is_done, too_long, done_as, scanned_as, within_room}
use Rattle.log_scan.proofs.Done.{done_long, done_start, done_clear}
use Rattle.log_scan.proofs.Joining.{clear_listed_join, clear_join, sums_join, start_join}
use Rattle.log_player.specs.Logs.{answer_on}
use Rattle.log_player.specs.Playing.{bytes_of, unit_after, output, unit_at_end}
use Rattle.log_player.specs.Frames.{made_of, made_by}

pub unit_at_end_append : (xs ys : List Judged) (a : Apu) → unit_at_end (xs ++ ys) a ≡ unit_at_end ys (unit_at_end xs a)
unfolding unit_at_end
unit_at_end_append [] ys a = refl
unit_at_end_append (r ∷ xs) ys a = unit_at_end_append xs ys (unit_after r a)

pub output_append : (xs ys : List Judged) (a : Apu) → output (xs ++ ys) a ≡ output xs a ++ output ys (unit_at_end xs a)
unfolding output unit_at_end
output_append [] ys a = refl
output_append (r ∷ xs) ys a =
    let b = unit_after r a in
    ap (λ (l : List ℕ). bytes_of r a ++ l) (output_append xs ys b) ∙ sym (append_assoc (bytes_of r a) (output xs b) (output ys (unit_at_end xs b)))

pub made_by_append : (xs ys : List Judged) (a : Apu) → made_by (xs ++ ys) a ≡ made_by xs a + made_by ys (unit_at_end xs a)
unfolding made_by unit_at_end
made_by_append [] ys a = sym (zero-add (made_by ys a))
made_by_append (r ∷ xs) ys a =
    let b = unit_after r a in
    ap (λ (n : ℕ). made_of r a + n) (made_by_append xs ys b) ∙ sym (add_assoc (made_of r a) (made_by xs b) (made_by ys (unit_at_end xs b)))

-- ---- ranges
-- the value that a record writes, or 0
abbrev pub value_in : Judged → ℕ
value_in (Ok (Write addr value)) = value
value_in (Ok (Read addr)) = 0
value_in (Ok (Clock double divider count)) = 0
value_in (Ok Pcm) = 0
value_in (Err fault) = 0

-- a row in which every value written is a byte
infixr 4 ◌then◌
pub data ByteValues : List Judged → Type 0 where
  end : ByteValues []
  ◌then◌ : {r : Judged} {l : List Judged} → value_in r ≤ 255 → ByteValues l → ByteValues (r ∷ l)

after_held : (r : Judged) (a : Apu) → value_in r ≤ 255 → Held a × FloatsHeld a → Held (unit_after r a) × FloatsHeld (unit_after r a)
after_held (Ok (Write addr value)) a v h = (write_held a addr value v h.0, write_floats a addr value h.1)
after_held (Ok (Read addr)) a v h = h
after_held (Ok (Clock d v k)) a _ h = (clocks_held d v 0 k a h.0, clocks_floats d v 0 k a h.0 h.1)
after_held (Ok Pcm) a v h = h
after_held (Err fault) a v h = h

pub unit_at_end_held : (l : List Judged) (a : Apu) → ByteValues l → Held a × FloatsHeld a → Held (unit_at_end l a) × FloatsHeld (unit_at_end l a)
unfolding unit_at_end
unit_at_end_held [] a end h = h
unit_at_end_held (r ∷ l) a (v then vs) h = unit_at_end_held l (unit_after r a) vs (after_held r a v h)

-- the values that a log of bytes writes are bytes
abbrev pub AllBytes : List ℕ → Type 0
AllBytes s = (i : ℕ) → get_or s i 0 ≤ 255

take_bytes : (n : ℕ) (s : List ℕ) → AllBytes s → AllBytes (take n s)
take_bytes zero s h i = omega arith
take_bytes (suc n) [] h i = omega arith
take_bytes (suc n) (x ∷ s) h zero = h 0
take_bytes (suc n) (x ∷ s) h (suc i) = take_bytes n s (λ j. h (suc j)) i

body_bytes : (s : List ℕ) (at n : ℕ) → AllBytes s → AllBytes (body_at s at n)
body_bytes s at n h = take_bytes n (drop (at + 2) s) (λ i. rw (get_d_drop (at + 2) i s) (h (at + 2 + i)))

abbrev Low : Judged → Type 0
Low r = value_in r ≤ 255

judged_byte : (v : ℕ) (s : List ℕ) → AllBytes s → Low (judge_of v s)
unfolding judge_of write_of read_of clock_of pcm_of
judged_byte v s h =
    let none : 0 ≤ 255 = omega arith in
    both_ways Low _ none
    (both_ways Low _ (both_ways Low _ (both_ways Low _ (h 3) none) none)
    (both_ways Low _ (both_ways Low _ (both_ways Low _ none none) none)
    (both_ways Low _ (both_ways Low _ (both_ways Low _ none none) none)
    (both_ways Low _ (both_ways Low _ none none) none))))

first_bytes : (v : ℕ) (s : List ℕ) (at : ℕ) (rest : ℕ → Parsed) (c : Cut) → AllBytes s
    → ((n : ℕ) → ByteValues (unrolled (rest (at + 2 + n)))) → ByteValues (unrolled (grow v s at rest c))
first_bytes v s at rest (Ok None) h more = end
first_bytes v s at rest (Err fault) h more = end
first_bytes v s at rest (Ok (Some n)) h more = judged_byte v (body_at s at n) (body_bytes s at n h) then more n

parsed_bytes : (v n : ℕ) (s : List ℕ) (at : ℕ) → AllBytes s → ByteValues (unrolled (parse v n s at))
unfolding parse
parsed_bytes v zero s at h = end
parsed_bytes v (suc n) s at h = first_bytes v s at (parse v n s) (cut_at s at) h (λ k. parsed_bytes v n s (at + 2 + k) h)

pub listed_bytes : (s : List ℕ) → AllBytes s → ByteValues (listed s)
unfolding records_from
listed_bytes s h = parsed_bytes (version_of s) (length s) s 2 h

-- ---- one log after another of its version: the records of a log that was done, and then those of the other on the unit that they leave, are those of both in
-- one log
module _ (a : Apu) (s t : List ℕ) (same : version_of t ≡ version_of s) (room : ℕ) (done : is_done (answer_on a s room) ≡ true) where
  good : 2 ≤ length s
  good = done_long room (length (output (listed s) a)) (made_by (listed s) a) s done

  whole : wrong_in (records_of s) ≡ None
  whole = done_clear room (length (output (listed s) a)) (made_by (listed s) a) s done

  both : listed (s ++ drop 2 t) ≡ listed s ++ listed t
  both = clear_listed_join s t good same whole

  pub output_join : output (listed (s ++ drop 2 t)) a ≡ output (listed s) a ++ output (listed t) (unit_at_end (listed s) a)
  output_join = ap (λ (l : List Judged). output l a) both ∙ output_append (listed s) (listed t) a

  pub made_by_join : made_by (listed (s ++ drop 2 t)) a ≡ made_by (listed s) a + made_by (listed t) (unit_at_end (listed s) a)
  made_by_join = ap (λ (l : List Judged). made_by l a) both ∙ made_by_append (listed s) (listed t) a

  passes : too_long (s ++ drop 2 t) ≡ false → wrong_in (records_of t) ≡ None
      → (n f : ℕ) → scanned_as n f (s ++ drop 2 t) ≡ done_as n f (summed (listed (s ++ drop 2 t)))
  unfolding scanned_as pick
  passes short clear n f = rw (short, start_join s (drop 2 t) good ∙ done_start room _ _ s done, clear_join s t good same whole clear)

  -- and what both in one log are answered, where it is not too long: the bytes, frames, clock calls and records of both
  pub answer_join : (wide : ℕ) → too_long (s ++ drop 2 t) ≡ false → wrong_in (records_of t) ≡ None
      → let b = unit_at_end (listed s) a in
      answer_on a (s ++ drop 2 t) wide
      ≡ within_room wide
      (done_as (length (output (listed s) a) + length (output (listed t) b)) (made_by (listed s) a + made_by (listed t) b)
      (added (summed (listed s)) (summed (listed t))))
  answer_join wide short clear =
      let b = unit_at_end (listed s) a in
      let bytes = ap length output_join ∙ length-append (output (listed s) a) (output (listed t) b) in
      ap (within_room wide)
      (passes short clear _ _
      ∙ ap₂ (λ (n f : ℕ). done_as n f (summed (listed (s ++ drop 2 t)))) bytes made_by_join
      ∙ ap (done_as (length (output (listed s) a) + length (output (listed t) b)) (made_by (listed s) a + made_by (listed t) b))
      (sums_join s t good same whole))

  pub unit_at_end_join : unit_at_end (listed (s ++ drop 2 t)) a ≡ unit_at_end (listed t) (unit_at_end (listed s) a)
  unit_at_end_join = ap (λ (l : List Judged). unit_at_end l a) both ∙ unit_at_end_append (listed s) (listed t) a
