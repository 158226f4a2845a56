-- A log on a kept unit: what it is answered, the output, and the image after it. Assumes nothing.
use Rattle.std.specs.Prelude.{ℕ, ◌&&◌, List, length, ltb, Err}
use Rattle.ground.specs.Pick.{pick}
use Rattle.apu.specs.declared.Apu.{Apu}
use Rattle.log_records.specs.Records.{listed}
use Rattle.log_scan.specs.Answers.{is_done, out_after}
use Rattle.log_player.specs.Playing.{output, unit_at_end}
use Rattle.log_player.specs.Logs.{answer_on}
use Rattle.image.specs.Layout.{image_length}
use Rattle.image.specs.Answers.{saved_in, is_taken, taken_of}
use Rattle.image_player.specs.Answers.{ImageAnswer, of_log}
use Rattle.image_player.specs.declared.answer.ImageRefusal.TheVariants.{WrongImage, NoRoomForImage}

-- ---- on a unit, with so many bytes of room for the output and so many for the image

-- the log's refusals come first, 8 ("place too short (bytes needed)") last
unfoldable pub answer_kept : Apu → List ℕ → ℕ → ℕ → ImageAnswer
answer_kept a log room place =
    pick (is_done (answer_on a log room) && ltb place image_length) (Err (NoRoomForImage image_length)) (of_log (answer_on a log room))

-- the output after it: with any refusal, 8 too, as it was
unfoldable pub out_kept : Apu → List ℕ → ℕ → List ℕ → List ℕ
out_kept a log place out = pick (ltb place image_length) out (out_after (answer_on a log (length out)) (output (listed log) a) out)

-- the place for the image after it: the image of the unit after the log's records; with any refusal as it was (8 is in `saved_in`)
unfoldable pub after_kept : Apu → List ℕ → ℕ → List ℕ → List ℕ
after_kept a log room after = pick (is_done (answer_on a log room)) (saved_in (unit_at_end (listed log) a) after) after

-- ---- on the unit of an image: "7, image wrong" comes before all else

unfoldable pub answer_from : List ℕ → List ℕ → ℕ → ℕ → ImageAnswer
answer_from image log room place = pick (is_taken image) (answer_kept (taken_of image).apu log room place) (Err WrongImage)

unfoldable pub out_from : List ℕ → List ℕ → ℕ → List ℕ → List ℕ
out_from image log place out = pick (is_taken image) (out_kept (taken_of image).apu log place out) out

unfoldable pub after_from : List ℕ → List ℕ → ℕ → List ℕ → List ℕ
after_from image log room after = pick (is_taken image) (after_kept (taken_of image).apu log room after) after
