-- What playing on a kept unit tells of answer, output and image, by the tests that were passed. Assumes nothing.
use Prim.Native.Nat.{ℕ, ◌^◌, ◌≤◌, ◌<◌}
use mathlib.Core.Path.{◌≡◌, refl, sym}
use mathlib.Core.Bool.{Bool, true, false}
use mathlib.Core.List.{List}
use lib.ListN.{length}
use native.Mathlib.Omega.{arith}
use lib.Dec.{ltb, lit≤, lit<}
use borrow.Author.Tests.{lt-ltb, le-ltb}
use Rattle.ground.specs.Pick.{pick}
use Rattle.ground.proofs.Cases.{both_ways}
use Rattle.apu.specs.Held.{Whole}
use Rattle.apu.specs.declared.Apu.{Apu}
use Rattle.log_records.specs.Records.{listed}
use Rattle.std.specs.Prelude.{Ok, Err}
use Rattle.log_scan.specs.Answers.{LogAnswer, is_done, out_after}
use Rattle.log_scan.proofs.Done.{refused_out}
use Rattle.log_scan.proofs.Bounds.{Packs, refusal_le}
use Rattle.log_player.specs.Playing.{output, unit_at_end}
use Rattle.log_player.specs.Logs.{answer_on}
use Rattle.log_player.proofs.Answering.{answer_packs_on}
use Rattle.image_laws.proofs.Hold.{images}
use Rattle.image.specs.Layout.{image_length}
use Rattle.image.specs.Answers.{saved_in, is_taken, taken_if, taken_of}
use Rattle.image.specs.Image.{unit_at}
use Rattle.image.specs.declared.keep.WrongImage as image
use Rattle.image_player.specs.Answers.{ImageAnswer, of_log, refusal_of, returned_of}
use Rattle.image_player.specs.Playing.{answer_kept, out_kept, after_kept, answer_from, out_from, after_from}
use Rattle.image_player.specs.declared.answer.ImageRefusal.TheVariants.{WrongImage, Log, NoRoomForImage}

-- all that is told of a log on a unit
abbrev pub ToldOnUnit : Apu → List ℕ → List ℕ → List ℕ → ImageAnswer → List ℕ → List ℕ → Type 0
ToldOnUnit a log out after r out' after' =
    (r ≡ answer_kept a log (length out) (length after)) × ((out' ≡ out_kept a log (length after) out) × (after' ≡ after_kept a log (length out) after))

module _ (a : Apu) (log out after : List ℕ) {answer : LogAnswer} (e : answer ≡ answer_on a log (length out)) where
  -- refusal 8
  pub no_room : is_done answer ≡ true → length after < image_length → ToldOnUnit a log out after (Err (NoRoomForImage image_length)) out after
  unfolding answer_kept out_kept after_kept saved_in pick
  no_room d l = let t = lt-ltb (length after) image_length l in (rw (← e, d, t), (rw t, rw (← e, d, t)))

  -- played
  pub played : is_done answer ≡ true → image_length ≤ length after → {out' after' : List ℕ} → out' ≡ out_after answer (output (listed log) a) out
      → after' ≡ saved_in (unit_at_end (listed log) a) after → ToldOnUnit a log out after (of_log answer) out' after'
  unfolding answer_kept out_kept after_kept pick
  played d l o k = let t = le-ltb (length after) image_length l in (rw (← e, d, t), (rw (t, ← e) o, rw (← e, d) k))

  -- the log's own refusals
  pub refused : is_done answer ≡ false → ToldOnUnit a log out after (of_log answer) out after
  unfolding answer_kept out_kept after_kept pick
  refused d = (rw (← e, d), (go (ltb (length after) image_length), rw (← e, d)))
    where
      go : (b : Bool) → out ≡ pick b out (out_after (answer_on a log (length out)) (output (listed log) a) out)
      go true = refl
      go false = rw (← e) (sym (refused_out answer (output (listed log) a) out d))

-- a log's own answer returns what it returned
log_packs : (x : LogAnswer) → Packs x → returned_of (of_log x) < 2 ^ 48
log_packs (Ok played) h = h
log_packs (Err r) h = h

-- what is returned stays in 48 bits, whichever way
pub kept_packs : (a : Apu) → Whole a → (log : List ℕ) (room place : ℕ) → returned_of (answer_kept a log room place) < 2 ^ 48
unfolding answer_kept
kept_packs a w log room place =
    both_ways (λ (r : ImageAnswer). returned_of r < 2 ^ 48) _ {x = Err (NoRoomForImage image_length)} {y = of_log (answer_on a log room)} (lit< tt)
    (log_packs (answer_on a log room) (answer_packs_on a w.held w.floats log room))

pub from_packs : (s log : List ℕ) (room place : ℕ) → returned_of (answer_from s log room place) < 2 ^ 48
unfolding answer_from
from_packs s log room place =
    both_ways (λ (r : ImageAnswer). returned_of r < 2 ^ 48) _ {x = answer_kept (taken_of s).apu log room place} {y = Err WrongImage}
    (kept_packs (taken_of s).apu (images.whole s) log room place) (lit< tt)

-- and its refusal is 8 at most
pub refusal_most : (r : ImageAnswer) → refusal_of r ≤ 8
refusal_most (Ok played) = lit≤ tt
refusal_most (Err WrongImage) = lit≤ tt
refusal_most (Err (Log r)) = let h = refusal_le (Err r) in omega (arith, h)
refusal_most (Err (NoRoomForImage needed)) = lit≤ tt

-- all that is told of a log on an image
abbrev pub ToldOnImage : List ℕ → List ℕ → List ℕ → List ℕ → ImageAnswer → List ℕ → List ℕ → Type 0
ToldOnImage s log out after r out' after' =
    (r ≡ answer_from s log (length out) (length after)) × ((out' ≡ out_from s log (length after) out) × (after' ≡ after_from s log (length out) after))

-- whether an image is taken, by its answer
is-taken : (s : List ℕ) → (taken_of s).answer ≡ Ok tt → is_taken s ≡ true
unfolding taken_of
is-taken s = go (is_taken s)
  where
    go : (b : Bool) → (taken_if b (unit_at s 0)).answer ≡ Ok tt → b ≡ true
    go true e = refl
    go false e = cc

is_wrong : (s : List ℕ) {w : image.WrongImage} → (taken_of s).answer ≡ Err w → is_taken s ≡ false
unfolding taken_of
is_wrong s {w} = go (is_taken s)
  where
    go : (b : Bool) → (taken_if b (unit_at s 0)).answer ≡ Err w → b ≡ false
    go true e = cc
    go false e = refl

module _ (s log out after : List ℕ) where
  pub on_taken : (taken_of s).answer ≡ Ok tt → {r : ImageAnswer} {out' after' : List ℕ} → ToldOnUnit (taken_of s).apu log out after r out' after'
      → ToldOnImage s log out after r out' after'
  unfolding answer_from out_from after_from pick
  on_taken e k = rw (is-taken s e) k

  pub on_wrong : {w : image.WrongImage} → (taken_of s).answer ≡ Err w → ToldOnImage s log out after (Err WrongImage) out after
  unfolding answer_from out_from after_from pick
  on_wrong e = rw (is_wrong s e) (refl, (refl, refl))
