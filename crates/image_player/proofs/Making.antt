-- What making a fresh unit's image tells, by the tests that were passed. Assumes nothing.
use Prim.Native.Nat.{ℕ, ◌^◌, ◌≤◌, ◌<◌}
use mathlib.Core.Path.{◌≡◌, refl, ◌∙◌, ap}
use mathlib.Core.Bool.{Bool, true, false}
use mathlib.Core.List.{List}
use lib.ListN.{length}
use lib.Dec.{ltb, lit≤, lit<}
use borrow.Author.Tests.{lt-ltb, le-ltb}
use Rattle.ground.specs.Pick.{pick}
use Rattle.ground.proofs.Cases.{both_ways}
use Rattle.apu.specs.declared.Apu.{Apu}
use Rattle.log_player.specs.Playing.{unit_of_start}
use Rattle.image.specs.Layout.{image_length}
use Rattle.image.specs.Answers.{saved_of, saved_in}
use Rattle.std.specs.Prelude.{Result, Ok, Err}
use Rattle.image.specs.declared.keep.TooShort as image
use Rattle.image_player.specs.Making.{Made, made_of, made_in, refusal_of_made, returned_of_made}
use Rattle.image_player.specs.declared.make.MakeRefusal.TheVariants.{BadStart, TooShort}

pub bad-start : (byte : ℕ) (out : List ℕ) → 3 < byte → (Err BadStart ≡ made_of byte (length out)) × (out ≡ made_in byte out)
unfolding made_of made_in pick
bad-start byte out h = let t = lt-ltb 3 byte h in (rw t, rw t)

-- the answer by that of writing
abbrev pub made : Result Unit image.TooShort → Made
made (Ok x) = Ok image_length
made (Err short) = Err (TooShort short.needed)

made_is : (byte room : ℕ) → byte ≤ 3 → made (saved_of room) ≡ made_of byte room
unfolding made_of saved_of pick
made_is byte room h = rw (le-ltb 3 byte h) (go (ltb room image_length))
  where
    go : (b : Bool) → made (pick b (Err (record { needed = image_length })) (Ok tt)) ≡ pick b (Err (TooShort image_length)) (Ok image_length)
    go true = refl
    go false = refl

put_in : (byte : ℕ) (out : List ℕ) → byte ≤ 3 → saved_in (unit_of_start byte) out ≡ made_in byte out
unfolding made_in pick
put_in byte out h = rw (le-ltb 3 byte h)

pub written : (byte : ℕ) (out : List ℕ) → byte ≤ 3 → {u : Apu} {s : Result Unit image.TooShort} {out' : List ℕ} → u ≡ unit_of_start byte
    → s ≡ saved_of (length out) → out' ≡ saved_in u out → (made s ≡ made_of byte (length out)) × (out' ≡ made_in byte out)
written byte out h e f g = (ap made f ∙ made_is byte (length out) h, g ∙ ap (λ (v : Apu). saved_in v out) e ∙ put_in byte out h)

-- its numbers: the refusal is 8 at most, and what is returned is the image's length at most
pub made_refusal : (m : Made) → refusal_of_made m ≤ 8
made_refusal (Ok written) = lit≤ tt
made_refusal (Err BadStart) = lit≤ tt
made_refusal (Err (TooShort needed)) = lit≤ tt

pub made_packs : (byte room : ℕ) → returned_of_made (made_of byte room) < 2 ^ 48
unfolding made_of
made_packs byte room =
    both_ways (λ (m : Made). returned_of_made m < 2 ^ 48) _ {x = Err BadStart} (lit< tt)
    (both_ways (λ (m : Made). returned_of_made m < 2 ^ 48) _ {x = Err (TooShort image_length)} {y = Ok image_length} (lit< tt) (lit< tt))
