-- What writing and taking an image answer, by the tests that were passed. Assumes nothing.
use Prim.Native.Nat.{ℕ, ◌≤◌, ◌<◌}
use mathlib.Core.Path.{◌≡◌, refl, ◌∙◌, ap}
use mathlib.Core.Bool.{Bool, true, false, ◌&&◌}
use mathlib.Core.List.{List}
use lib.ListN.{length}
use borrow.Author.Tests.{lt-ltb, le-ltb, eq-eqb, ne_eqb}
use Rattle.ground.specs.Pick.{pick}
use Rattle.image_fields.specs.Bytes.{stored}
use Rattle.apu.specs.declared.Apu.{Apu}
use Rattle.image.specs.Image.{unit_bytes, unit_at, unit_fits}
use Rattle.image.specs.Answers.{saved_of, saved_in, is_taken, fresh_dmg, taken_if, taken_of}
use Rattle.image.specs.declared.keep.Taken.{Taken}
use Rattle.image.specs.declared.keep.TooShort.{TooShort}
use Rattle.std.specs.Prelude.{Result, Ok, Err}

pub short_answer : (n : ℕ) → n < 164 → ◌≡◌ {A = Result Unit TooShort} (Err (record { needed = 164 })) (saved_of n)
unfolding saved_of pick
short_answer n h = rw (lt-ltb n 164 h)

pub short_kept : (u : Apu) (l : List ℕ) → length l < 164 → l ≡ saved_in u l
unfolding saved_in pick
short_kept u l h = rw (lt-ltb (length l) 164 h)

pub done_answer : (n : ℕ) → 164 ≤ n → Ok tt ≡ saved_of n
unfolding saved_of pick
done_answer n h = rw (le-ltb n 164 h)

pub done_stored : (u : Apu) (l k : List ℕ) → 164 ≤ length l → k ≡ stored l 0 (unit_bytes u) → k ≡ saved_in u l
unfolding saved_in pick
done_stored u l k h e = rw (le-ltb (length l) 164 h) e

pub taken_yes : (s : List ℕ) (r : Apu) → length s ≡ 164 → unit_fits s 0 ≡ true → r ≡ unit_at s 0 → record { answer = Ok tt; apu = r } ≡ taken_of s
unfolding taken_of is_taken
taken_yes s r l o e = ap (taken_if true) e ∙ rw (eq-eqb (length s) 164 l, o)

no : (b : Bool) → (b && false) ≡ false
no true = refl
no false = refl

pub taken_no_test : (s : List ℕ) (r : Taken) → r ≡ taken_if false fresh_dmg → unit_fits s 0 ≡ false → r ≡ taken_of s
unfolding taken_of is_taken
taken_no_test s r e o = e ∙ simp (o, no)

pub taken_no_length : (s : List ℕ) (r : Taken) → r ≡ taken_if false fresh_dmg → (length s ≡ 164 → ⊥) → r ≡ taken_of s
unfolding taken_of is_taken
taken_no_length s r e l = e ∙ rw (ne_eqb (length s) 164 l)
