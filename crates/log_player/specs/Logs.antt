-- A whole log: what it is answered, and the bytes that it makes, from document 01, "The access log". Assumes nothing.
use Rattle.std.specs.Prelude.{ℕ, List, length, get_or}
use Rattle.log_records.specs.Records.{listed}
use Rattle.log_scan.specs.Answers.{LogAnswer, refused_within, returned_for, scanned_as, within_room}
use Rattle.apu.specs.declared.Apu.{Apu}
use Rattle.log_player.specs.Playing.{unit_of_start, output}
use Rattle.log_player.specs.Frames.{made_by}

-- ---- on any unit

-- "3 to 6 are tried in that order", in an output of `room` bytes; the bytes written, or needed, are those of the records on that unit, and the frames are
-- counted call by call (that demand 3 says how many they are, from what the unit has stored: `frames_made` of proofs/Frames.antt)
abbrev pub answer_on : Apu → List ℕ → ℕ → LogAnswer
answer_on a s room = within_room room (scanned_as (length (output (listed s) a)) (made_by (listed s) a) s)

-- its refusal, and the number returned
abbrev pub refused_on : Apu → List ℕ → ℕ → ℕ
refused_on a s room = refused_within room (length (output (listed s) a)) s

abbrev pub returned_on : Apu → List ℕ → ℕ
returned_on a s = returned_for (length (output (listed s) a)) s

-- ---- on the unit that its start byte asks for

-- the bytes of a log's records
abbrev pub bytes_of_log : List ℕ → List ℕ
bytes_of_log s = output (listed s) (unit_of_start (get_or s 1 0))

-- what the log is answered, its refusal, and the number returned
abbrev pub answer_of : List ℕ → ℕ → LogAnswer
answer_of s room = answer_on (unit_of_start (get_or s 1 0)) s room

abbrev pub refused_log : List ℕ → ℕ → ℕ
refused_log s room = refused_on (unit_of_start (get_or s 1 0)) s room

abbrev pub returned_log : List ℕ → ℕ
returned_log s = returned_on (unit_of_start (get_or s 1 0)) s
