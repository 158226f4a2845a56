-- A chain is its logs in one: what is kept is the image of the unit after the first log, an image gives back the unit, and a row of records may be played in
-- two parts. Assumes nothing.
use Prim.Native.Nat.{ℕ, ◌+◌, ◌≤◌}
use mathlib.Core.Path.{◌≡◌, refl, sym, ◌∙◌, ap, ap₂}
use mathlib.Core.Bool.{Bool, true, false, ◌&&◌}
use mathlib.Core.List.{List, ◌++◌, append-nil}
use native.Mathlib.Nat.{zero-add, le_of_eq}
use native.Mathlib.Omega.{arith}
use lib.ListN.{length, get_or, drop_of_length-le, length-append}
use lib.Dec.{ltb}
use lib.Seq.{sets-eq}
use borrow.Author.Tests.{le-ltb}
use Rattle.std.specs.Prelude.{Option, None, Some}
use Rattle.ground.specs.Pick.{pick}
use Rattle.ground.proofs.Cases.{pick_holds}
use Rattle.apu.specs.Held.{Whole}
use Rattle.apu.specs.declared.Apu.{Apu}
use Rattle.log_records.specs.Judge.{Judged}
use Rattle.log_records.specs.Records.{version_of, records_of, listed}
use Rattle.log_scan.specs.Scan.{wrong_in, summed, added}
use Rattle.log_scan.specs.Answers.{LogAnswer, is_done, done_as, or_wrong, scanned_as, within_room}
use Rattle.log_scan.specs.declared.answer.Played.{Played}
use Rattle.log_scan.specs.declared.answer.LogRefusal.TheVariants.{TooLong, TooShort}
use Rattle.log_scan.specs.declared.scan.Sums.{Sums}
use Rattle.log_scan.proofs.Counting.{summed_append}
use Rattle.log_scan.proofs.Done.{done_clear}
use Rattle.log_player.specs.Playing.{unit_of_start, output, unit_at_end}
use Rattle.log_player.specs.Frames.{made_by}
use Rattle.log_player.specs.Logs.{answer_on, answer_of}
use Rattle.log_player.proofs.Appending.{unit_at_end_append, output_append, made_by_append}
use Rattle.log_player.proofs.Appending.{unit_at_end_held, listed_bytes, output_join, answer_join, unit_at_end_join}
use Rattle.log_player.proofs.Frames.{start_ready}
use Rattle.image_fields.specs.Bytes.{stored}
use Rattle.image.specs.Layout.{image_length}
use Rattle.image.specs.Image.{unit_bytes}
use Rattle.image.specs.Answers.{saved_in, is_taken, taken_of}
use Rattle.std.specs.Prelude.{Ok, Err}
use Rattle.image.specs.declared.keep.Taken.{Taken}
use Rattle.image_laws.specs.Images.{Bytewise}
use Rattle.image_laws.proofs.Hold.{images}
use Rattle.image_laws.proofs.Whole.{unit_long}
use Rattle.image_player.specs.Playing.{answer_kept, answer_from, after_kept, after_from}
use Rattle.image_player.specs.Answers.{ImageAnswer, of_log}
use Rattle.image_player.specs.declared.answer.ImageRefusal.TheVariants.{WrongImage, Log, NoRoomForImage}
use Rattle.image_chains.specs.Chains.{Counts, played_with, done_with, plus, one_log, unit_of, Links, counts_of, Followed, Chained, Chains}

-- ---- from an answer to what it is made of
log_in : ImageAnswer → LogAnswer
log_in (Ok played) = Ok played
log_in (Err WrongImage) = Err TooLong
log_in (Err (Log r)) = Err r
log_in (Err (NoRoomForImage needed)) = Err TooLong

in_of : (x : LogAnswer) → log_in (of_log x) ≡ x
unfolding log_in
in_of (Ok played) = refl
in_of (Err r) = refl

told : (t b : Bool) (n : ℕ) (x y : LogAnswer) → pick t (pick b (Err (NoRoomForImage n)) (of_log x)) (Err WrongImage) ≡ of_log y → (t ≡ true) × (x ≡ y)
unfolding pick
told true true n x (Ok y) e = (refl, cc)
told true true n x (Err y) e = (refl, cc)
told true false n x y e = (refl, sym (in_of x) ∙ ap log_in e ∙ in_of y)
told false b n x (Ok y) e = (cc, cc)
told false b n x (Err y) e = (cc, cc)

module _ (s log : List ℕ) (room : ℕ) {y : LogAnswer} (e : answer_from s log room image_length ≡ of_log y) where
  both : (is_taken s ≡ true) × (answer_on (unit_of s) log room ≡ y)
  unfolding answer_from answer_kept
  both = told (is_taken s) (is_done (answer_on (unit_of s) log room) && ltb image_length image_length) image_length (answer_on (unit_of s) log room) y e

-- ---- an answer that is done has the numbers of its records
module _ (room n f : ℕ) (s : List ℕ) where
  abbrev sums : LogAnswer
  sums = done_as n f (summed (listed s))

  abbrev Is : LogAnswer → Type 0
  Is a = is_done (within_room room a) ≡ true → within_room room a ≡ sums

  roomy : (t : Bool) → is_done (pick t (Err (TooShort n)) sums) ≡ true → pick t (Err (TooShort n)) sums ≡ sums
  unfolding pick
  roomy true d = cc
  roomy false d = refl

  marked : (m : Option ℕ) → Is (or_wrong m sums)
  unfolding within_room
  marked None d = roomy (ltb room n) d
  marked (Some p) d = cc

  done_is : Is (scanned_as n f s)
  unfolding scanned_as within_room
  done_is = pick_holds Is _ _ _ (λ _ d. cc) (λ _. pick_holds Is _ _ _ (λ _ d. cc) (λ _. marked (wrong_in (records_of s))))

-- the numbers of two answers that are done
added_to : Played → LogAnswer → LogAnswer
added_to p (Ok q) =
    Ok (record { written = p.written + q.written; frames = p.frames + q.frames; clocks = p.clocks + q.clocks; records = p.records + q.records })
added_to p (Err r) = Err r

sum_of : LogAnswer → LogAnswer → LogAnswer
sum_of (Ok p) b = added_to p b
sum_of (Err r) b = Err r

-- the numbers of an answer that is done
counts_in : LogAnswer → Counts
counts_in (Ok p) = record { bytes = p.written; frames = p.frames; calls = p.clocks; records = p.records }
counts_in (Err r) = record { bytes = 0; frames = 0; calls = 0; records = 0 }

-- those of two rows, the second on the unit that the first leaves
abbrev tell : ℕ → ℕ → Sums → Counts
tell bytes frames sums = record { bytes = bytes; frames = frames; calls = sums.calls; records = sums.records }

counts_append : (xs ys : List Judged) (u : Apu)
    → let v = unit_at_end xs u in
    tell (length (output xs u) + length (output ys v)) (made_by xs u + made_by ys v) (added (summed xs) (summed ys)) ≡ counts_of (xs ++ ys) u
counts_append xs ys u =
    let v = unit_at_end xs u in
    let bytes = ap length (output_append xs ys u) ∙ length-append (output xs u) (output ys v) in
    sym (ap₂ (λ (b f : ℕ). tell b f (summed (xs ++ ys))) bytes (made_by_append xs ys u) ∙ ap (tell _ _) (summed_append xs ys))

-- ---- what is kept is the image of the unit after the log
all_stored : (l xs : List ℕ) → length l ≡ length xs → stored l 0 xs ≡ xs
unfolding stored
all_stored l xs e =
    sets-eq xs l 0 (le_of_eq (zero-add (length xs) ∙ sym e))
    ∙ ap (λ (r : List ℕ). xs ++ r) (drop_of_length-le l (le_of_eq (e ∙ sym (zero-add (length xs)))))
    ∙ append-nil xs

module _ (s a place : List ℕ) (room : ℕ) (taken : is_taken s ≡ true) (ended : is_done (answer_on (unit_of s) a room) ≡ true) where
  abbrev left : Apu
  left = unit_at_end (listed a) (unit_of s)

  after_is : (after : List ℕ) → after_from s a room after ≡ saved_in left after
  unfolding after_from after_kept pick
  after_is after = rw (taken, ended)

  kept_is : length place ≡ image_length → after_from s a room place ≡ unit_bytes left
  kept_is e = after_is place ∙ saved e
    where
      saved : length place ≡ image_length → saved_in left place ≡ unit_bytes left
      saved e =
          unfold saved_in pick in
          rw (le-ltb (length place) image_length (le_of_eq (sym e))) (all_stored place (unit_bytes left) (e ∙ sym (unit_long left)))

  left_whole : Bytewise a → Whole left
  left_whole b =
      let w = images.whole s in
      let h = unit_at_end_held (listed a) (unit_of s) (listed_bytes a (low b)) (w.held, w.floats) in
      record { held = h.0; floats = h.1 }
    where
      low : Bytewise a → (i : ℕ) → get_or a i 0 ≤ 255
      low b i = let h = b i in omega (arith, h)

-- ---- a chain of two
module _ (s a b place : List ℕ) (room more : ℕ) (m n : Counts) (links : Links s a b place room more m n) where
  abbrev u : Apu
  u = unit_of s

  abbrev v : Apu
  v = unit_at_end (listed a) u

  abbrev kept : List ℕ
  kept = after_from s a room place

  taken : is_taken s ≡ true
  taken = (both s a room {y = Ok (played_with m)} links.first).0

  answer_a : answer_on u a room ≡ log_in (done_with m)
  unfolding log_in
  answer_a = (both s a room {y = Ok (played_with m)} links.first).1

  done_a : is_done (answer_on u a room) ≡ true
  unfolding log_in
  done_a = ap is_done answer_a

  again : taken_of kept ≡ record { answer = Ok tt; apu = v }
  again = ap taken_of (kept_is s a place room taken done_a links.exact) ∙ images.write_read v (left_whole s a place room taken done_a links.bytes)

  taken_up : unit_of kept ≡ v
  taken_up = ap (λ (r : Taken). r.apu) again

  taken_again : is_taken kept ≡ true
  taken_again = (both kept b more {y = Ok (played_with n)} links.second).0

  answer_b : answer_on v b more ≡ log_in (done_with n)
  unfolding log_in
  answer_b = ap (λ (w : Apu). answer_on w b more) (sym taken_up) ∙ (both kept b more {y = Ok (played_with n)} links.second).1

  done_b : is_done (answer_on v b more) ≡ true
  unfolding log_in
  done_b = ap is_done answer_b

  done_kept : is_done (answer_on (unit_of kept) b more) ≡ true
  done_kept = ap (λ (w : Apu). is_done (answer_on w b more)) taken_up ∙ done_b

  clear_b : wrong_in (records_of b) ≡ None
  clear_b = done_clear more (length (output (listed b) v)) (made_by (listed b) v) b done_b

  sum : sum_of (answer_on u a room) (answer_on v b more)
      ≡ done_as (length (output (listed a) u) + length (output (listed b) v)) (made_by (listed a) u + made_by (listed b) v)
      (added (summed (listed a)) (summed (listed b)))
  unfolding sum_of added_to
  sum =
      ap₂ sum_of (done_is room (length (output (listed a) u)) (made_by (listed a) u) a done_a)
      (done_is more (length (output (listed b) v)) (made_by (listed b) v) b done_b)

  -- ---- whatever their versions: the records of both in one row
  followed : Followed s a b kept more m n
  followed = record { counts = counts; output = out; image = image }
    where
      row : List Judged
      row = listed a ++ listed b

      both_told : log_in (done_with (plus m n)) ≡ sum_of (answer_on u a room) (answer_on v b more)
      both_told = unfold log_in sum_of added_to in sym (ap₂ sum_of answer_a answer_b)

      told_counts : plus m n
          ≡ tell (length (output (listed a) u) + length (output (listed b) v)) (made_by (listed a) u + made_by (listed b) v)
          (added (summed (listed a)) (summed (listed b)))
      told_counts = unfold counts_in log_in in ap counts_in (both_told ∙ sum)

      counts : plus m n ≡ counts_of row u
      counts = told_counts ∙ counts_append (listed a) (listed b) u

      out : output row u ≡ output (listed a) u ++ output (listed b) (unit_of kept)
      out = output_append (listed a) (listed b) u ∙ ap (λ (w : Apu). output (listed a) u ++ output (listed b) w) (sym taken_up)

      image : (after : List ℕ) → after_from kept b more after ≡ saved_in (unit_at_end row u) after
      image after =
          after_is kept b after more taken_again done_kept after
          ∙ ap (λ (w : Apu). saved_in w after) (ap (unit_at_end (listed b)) taken_up ∙ sym (unit_at_end_append (listed a) (listed b) u))

  module _ (wide : ℕ) (same : version_of b ≡ version_of a) (short : length (one_log a b) ≤ 65536) (enough : m.bytes + n.bytes ≤ wide) where
    answer_both : answer_on u (one_log a b) wide ≡ log_in (done_with (plus m n))
    unfolding log_in sum_of added_to within_room pick
    answer_both =
        answer_join u a b same room done_a wide (le-ltb 65536 (length (one_log a b)) short) clear_b
        ∙ ap (within_room wide) (sym sum ∙ ap₂ sum_of answer_a answer_b)
        ∙ rw (le-ltb wide (m.bytes + n.bytes) enough)

    done_both : is_done (answer_on u (one_log a b) wide) ≡ true
    unfolding log_in
    done_both = ap is_done answer_both

    chained : Chained s a b kept more wide m n
    chained = record { answer = answer; output = out; image = image }
      where
        answer : answer_from s (one_log a b) wide image_length ≡ done_with (plus m n)
        answer = unfold answer_from answer_kept pick log_in in rw (taken, answer_both)

        out : output (listed (one_log a b)) u ≡ output (listed a) u ++ output (listed b) (unit_of kept)
        out = output_join u a b same room done_a ∙ ap (λ (w : Apu). output (listed a) u ++ output (listed b) w) (sym taken_up)

        image : (after : List ℕ) → after_from s (one_log a b) wide after ≡ after_from kept b more after
        image after =
            after_is s (one_log a b) after wide taken done_both after
            ∙ ap (λ (w : Apu). saved_in w after) (unit_at_end_join u a b same room done_a ∙ ap (unit_at_end (listed b)) (sym taken_up))
            ∙ sym (after_is kept b after more taken_again done_kept after)

-- ---- a chain's beginning
fresh_taken : (byte : ℕ) → taken_of (unit_bytes (unit_of_start byte)) ≡ record { answer = Ok tt; apu = unit_of_start byte }
fresh_taken byte = let h = start_ready byte in images.write_read (unit_of_start byte) (record { held = h.0; floats = h.1 })

fresh_is : (byte : ℕ) → is_taken (unit_bytes (unit_of_start byte)) ≡ true
fresh_is byte =
    let h = start_ready byte in
    images.written_taken _ (record { unit = unit_of_start byte; whole = record { held = h.0; floats = h.1 }; is = refl })

no_refusal : (x : LogAnswer) (d : Bool) → pick (d && ltb image_length image_length) (Err (NoRoomForImage image_length)) (of_log x) ≡ of_log x
unfolding pick
no_refusal x true = refl
no_refusal x false = refl

pub chains : Chains
unfolding answer_from answer_kept pick
chains =
    record {
      follow = λ s a b place room more m n links. followed s a b place room more m n links;
      chain = λ s a b place room more wide m n links same short enough. chained s a b place room more m n links wide same short enough;
      fresh_answer =
          λ log room. let byte = get_or log 1 0 in
          rw (fresh_is byte)
          (ap (λ (t : Taken). answer_kept t.apu log room image_length) (fresh_taken byte)
          ∙ no_refusal (answer_of log room) (is_done (answer_of log room)));
      fresh_output = λ log. ap (λ (t : Taken). output (listed log) t.apu) (fresh_taken (get_or log 1 0));
    }
