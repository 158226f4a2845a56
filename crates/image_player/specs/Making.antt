-- A fresh unit's image, by a log's start byte. Assumes nothing.
use Rattle.std.specs.Prelude.{ℕ, ◌+◌, ◌*◌, ◌^◌, List, ltb, Result, Ok, Err}
use Rattle.ground.specs.Pick.{pick}
use Rattle.log_player.specs.Playing.{unit_of_start}
use Rattle.image.specs.Layout.{image_length}
use Rattle.image.specs.Answers.{saved_in}
use Rattle.log_scan.specs.Answers.{refusal_in, returned_in}
use Rattle.image_player.specs.declared.make.MakeRefusal.{MakeRefusal}
use Rattle.image_player.specs.declared.make.MakeRefusal.TheVariants.{BadStart, TooShort}

-- what making one answers: the bytes written, or a refusal
abbrev pub Made : Type 0
Made = Result ℕ MakeRefusal

-- 4: "start byte above 3", then 8: "place too short (bytes needed)"
unfoldable pub made_of : ℕ → ℕ → Made
made_of byte room = pick (ltb 3 byte) (Err BadStart) (pick (ltb room image_length) (Err (TooShort image_length)) (Ok image_length))

-- the place after it; with a refusal as it was (8 is in `saved_in`)
unfoldable pub made_in : ℕ → List ℕ → List ℕ
made_in byte out = pick (ltb 3 byte) out (saved_in (unit_of_start byte) out)

-- their numbers
abbrev pub number_of_made : MakeRefusal → ℕ
number_of_made BadStart = 4
number_of_made (TooShort needed) = 8

abbrev pub number_returned_of_made : MakeRefusal → ℕ
number_returned_of_made BadStart = 0
number_returned_of_made (TooShort needed) = needed

abbrev pub refusal_of_made : Made → ℕ
refusal_of_made m = refusal_in number_of_made m

abbrev pub returned_of_made : Made → ℕ
returned_of_made m = returned_in (λ (n : ℕ). n) number_returned_of_made m

abbrev pub packed_made : Made → ℕ
packed_made m = refusal_of_made m * 2 ^ 48 + returned_of_made m
