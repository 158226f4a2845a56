-- A recording of days is a chain of logs, each played on the unit that the one before it left, kept as an image between them: what that comes to.
-- Assumes nothing.
use Rattle.std.specs.Prelude.{ℕ, ◌+◌, ◌≤◌, ◌≡◌, List, ◌++◌, length, get_or, drop, Ok}
use Rattle.apu.specs.declared.Apu.{Apu}
use Rattle.log_records.specs.Judge.{Judged}
use Rattle.log_records.specs.Records.{version_of, listed}
use Rattle.log_scan.specs.Sums.{asks, sum_of}
use Rattle.log_scan.specs.declared.answer.Played.{Played}
use Rattle.log_player.specs.Playing.{unit_of_start, output, unit_at_end}
use Rattle.log_player.specs.Frames.{made_by}
use Rattle.log_player.specs.Logs.{bytes_of_log, answer_of}
use Rattle.image.specs.Layout.{image_length}
use Rattle.image.specs.Image.{unit_bytes}
use Rattle.image.specs.Answers.{saved_in, taken_of}
use Rattle.image_laws.specs.Images.{Bytewise}
use Rattle.image_player.specs.Playing.{answer_from, after_from}
use Rattle.image_player.specs.Answers.{ImageAnswer, of_log}

-- what an answer that is no refusal tells: bytes written, frames, clock calls, records
pub record Counts : Type 0 where
  pub bytes : ℕ
  pub frames : ℕ
  pub calls : ℕ
  pub records : ℕ

abbrev pub played_with : Counts → Played
played_with n = record { written = n.bytes; frames = n.frames; clocks = n.calls; records = n.records }

abbrev pub done_with : Counts → ImageAnswer
done_with n = Ok (played_with n)

-- those of two logs
abbrev pub plus : Counts → Counts → Counts
plus m n =
    record {
      bytes = m.bytes + n.bytes;
      frames = m.frames + n.frames;
      calls = m.calls + n.calls;
      records = m.records + n.records;
    }

-- the log that has one log's records and then another's
abbrev pub one_log : List ℕ → List ℕ → List ℕ
one_log a b = a ++ drop 2 b

-- the unit of an image
abbrev pub unit_of : List ℕ → Apu
unit_of s = (taken_of s).apu

-- log a played on the image s, the unit after it kept in `place`, and log b played on what was kept: neither was refused. (`room` and `more` are the outputs'
-- bytes, and places for images have 164.)
pub record Links (s a b place : List ℕ) (room more : ℕ) (m n : Counts) : Type 0 where
  pub bytes : Bytewise a
  pub exact : length place ≡ image_length
  pub first : answer_from s a room image_length ≡ done_with m
  pub second : answer_from (after_from s a room place) b more image_length ≡ done_with n

-- then the records of both, in one row on the unit of s, whatever versions the logs are of: their numbers are those of both answers, they make a's output and
-- then b's, and leave the unit whose image b left
abbrev pub counts_of : List Judged → Apu → Counts
counts_of l u = record { bytes = length (output l u); frames = made_by l u; calls = sum_of asks l; records = length l }

pub record Followed (s a b kept : List ℕ) (more : ℕ) (m n : Counts) : Type 0 where
  pub counts : plus m n ≡ counts_of (listed a ++ listed b) (unit_of s)
  pub output : output (listed a ++ listed b) (unit_of s) ≡ output (listed a) (unit_of s) ++ output (listed b) (unit_of kept)
  pub image : (after : List ℕ) → after_from kept b more after ≡ saved_in (unit_at_end (listed a ++ listed b) (unit_of s)) after

-- and where both are of one version, the log that has a's and b's records, played on s, is answered with the numbers of both, makes a's output and then b's,
-- and leaves the image that b left; `wide` is its output's bytes
pub record Chained (s a b kept : List ℕ) (more wide : ℕ) (m n : Counts) : Type 0 where
  pub answer : answer_from s (one_log a b) wide image_length ≡ done_with (plus m n)
  pub output : output (listed (one_log a b)) (unit_of s) ≡ output (listed a) (unit_of s) ++ output (listed b) (unit_of kept)
  pub image : (after : List ℕ) → after_from s (one_log a b) wide after ≡ after_from kept b more after

pub record Chains : Type 0 where
  -- a chain may mix versions
  pub follow : (s a b place : List ℕ) (room more : ℕ) (m n : Counts) → Links s a b place room more m n → Followed s a b (after_from s a room place) more m n
  -- logs of one version, where the one log is no longer than a log may be, and there is room for both outputs
  pub chain : (s a b place : List ℕ) (room more wide : ℕ) (m n : Counts) → Links s a b place room more m n
      → version_of b ≡ version_of a → length (one_log a b) ≤ 65536 → m.bytes + n.bytes ≤ wide → Chained s a b (after_from s a room place) more wide m n
  -- a chain begins with a fresh unit's image: on the image that its start byte asks for, a log is answered as by itself, and makes the same output
  pub fresh_answer : (log : List ℕ) (room : ℕ) → answer_from (unit_bytes (unit_of_start (get_or log 1 0))) log room image_length ≡ of_log (answer_of log room)
  pub fresh_output : (log : List ℕ) → output (listed log) (unit_of (unit_bytes (unit_of_start (get_or log 1 0)))) ≡ bytes_of_log log
