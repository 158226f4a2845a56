-- What playing on a kept unit answers, and its numbers: document 01's 3 to 6 for the log, request 2026-01's 7 and 8 around them. Assumes nothing.
use Rattle.std.specs.Prelude.{ℕ, ◌+◌, ◌*◌, ◌^◌, List, Result, Ok, Err}
use Rattle.log_scan.specs.Answers.{LogAnswer}
use Rattle.log_scan.specs.Answers as log
use Rattle.log_scan.specs.declared.answer.Played.{Played}
use Rattle.image_player.specs.declared.answer.ImageRefusal.{ImageRefusal}
use Rattle.image_player.specs.declared.answer.ImageRefusal.TheVariants.{WrongImage, Log, NoRoomForImage}

-- what playing on a kept unit answers
abbrev pub ImageAnswer : Type 0
ImageAnswer = Result Played ImageRefusal

-- a log's own answer as one of those
abbrev pub of_log : LogAnswer → ImageAnswer
of_log (Ok played) = Ok played
of_log (Err r) = Err (Log r)

-- a refusal's number, and the "number returned" beside it: "7, image wrong (0; ..); 8, place too short (bytes needed)"
abbrev pub number_of : ImageRefusal → ℕ
number_of WrongImage = 7
number_of (Log r) = log.number_of r
number_of (NoRoomForImage needed) = 8

abbrev pub number_returned : ImageRefusal → ℕ
number_returned WrongImage = 0
number_returned (Log r) = log.number_returned r
number_returned (NoRoomForImage needed) = needed

-- the refusal's number; 0 stands for none
abbrev pub refusal_of : ImageAnswer → ℕ
refusal_of a = log.refusal_in number_of a

-- bytes written to the output, or the number that a refusal returns
abbrev pub returned_of : ImageAnswer → ℕ
returned_of a = log.returned_in (λ (p : Played). p.written) number_returned a

-- refusal × 2^48 + bytes written or number returned, as a log's answer
abbrev pub packed : ImageAnswer → ℕ
packed a = refusal_of a * 2 ^ 48 + returned_of a

-- lent numbers after it: as a log's answer leaves them; with 7 or 8 all of them stay
abbrev pub counts_after : ImageAnswer → List ℕ → List ℕ
counts_after a counts = log.counts_after a counts
