-- What a log is answered, and document 01's numbers for it: "What each call may refuse", 3 to 6. Assumes nothing.
use Rattle.std.specs.Prelude.{ℕ, ◌+◌, ◌*◌, ◌^◌, ◌<◌, Bool, true, false, not, ◌&&◌, ◌||◌, List, [], ◌∷◌, ◌++◌, length, get_or, drop, ltb, leb, eqb}
use Rattle.std.specs.Prelude.{Option, None, Some, is_some, unwrap_or, Result, Ok, Err}
use Rattle.std.proofs.lemmas.List.Edits.{sets}
use Rattle.ground.specs.Pick.{pick}
use Rattle.clocks.specs.Calls.{K}
use Rattle.clocks.specs.Metered.{frames_from}
use Rattle.clocks.specs.declared.meter.Meter.{Meter}
use Rattle.log_scan.specs.declared.answer.Played.{Played}
use Rattle.log_scan.specs.declared.answer.LogRefusal.{LogRefusal}
use Rattle.log_scan.specs.declared.answer.LogRefusal.TheVariants.{TooLong, BadStart, WrongRecord, TooShort}
use Rattle.log_scan.specs.declared.scan.Sums.{Sums}
use Rattle.log_items.specs.Items.{frame_length}
use Rattle.log_records.specs.Records.{version_of, records_of, listed}
use Rattle.log_scan.specs.Scan.{wrong_in, summed}

-- what playing a log answers
abbrev pub LogAnswer : Type 0
LogAnswer = Result Played LogRefusal

-- a refusal's number in document 01, and the "number returned" beside it
abbrev pub number_of : LogRefusal → ℕ
number_of TooLong = 3
number_of BadStart = 4
number_of (WrongRecord place) = 5
number_of (TooShort needed) = 6

abbrev pub number_returned : LogRefusal → ℕ
number_returned TooLong = 0
number_returned BadStart = 0
number_returned (WrongRecord place) = place
number_returned (TooShort needed) = needed

-- an answer's refusal number, by the numbers of the refusals that it may have; 0 stands for none
abbrev pub refusal_in : {T E : Type 0} → (E → ℕ) → Result T E → ℕ
refusal_in number (Ok x) = 0
refusal_in number (Err r) = number r

-- "bytes written or number returned"
abbrev pub returned_in : {T E : Type 0} → (T → ℕ) → (E → ℕ) → Result T E → ℕ
returned_in bytes number (Ok x) = bytes x
returned_in bytes number (Err r) = number r

-- those of a log's answer
abbrev pub refusal_of : LogAnswer → ℕ
refusal_of a = refusal_in number_of a

abbrev pub returned_of : LogAnswer → ℕ
returned_of a = returned_in (λ (p : Played). p.written) number_returned a

-- "result refusal × 2^48 + bytes written or number returned"
abbrev pub packed : LogAnswer → ℕ
packed a = refusal_of a * 2 ^ 48 + returned_of a

-- whether it is no refusal
abbrev pub is_done : LogAnswer → Bool
is_done (Ok played) = true
is_done (Err r) = false

-- ---- what each refusal asks of a log's bytes

-- 3: "log longer than 65,536 bytes"
abbrev pub too_long : List ℕ → Bool
too_long s = ltb 65536 (length s)

-- 4: "log under 2 bytes, .. or start byte above 3"; "4 now means version neither 1 nor 2"
unfoldable pub bad_start : List ℕ → Bool
bad_start s = pick (ltb (length s) 2) true ((not (eqb (version_of s) 1) && not (eqb (version_of s) 2)) || ltb 3 (get_or s 1 0))

-- 5: "a wrong record": whether there is one, and "place of its first length byte"
abbrev pub has_wrong : List ℕ → Bool
has_wrong s = is_some (wrong_in (records_of s))

abbrev pub wrong_place : List ℕ → ℕ
wrong_place s = unwrap_or (wrong_in (records_of s)) 0

-- "3 to 6 are tried in that order": 3 to 5, or what comes after them
abbrev pub first_refused : List ℕ → ℕ → ℕ
first_refused s last = pick (too_long s) 3 (pick (bad_start s) 4 (pick (has_wrong s) 5 last))

-- the refusal of a log where there is room enough, and its number returned; without one, the bytes that it makes
unfoldable pub refused_for : List ℕ → ℕ
refused_for s = first_refused s 0

unfoldable pub returned_for : ℕ → List ℕ → ℕ
returned_for written s = pick (too_long s) 0 (pick (bad_start s) 0 (pick (has_wrong s) (wrong_place s) written))

-- in an output of `room` bytes; 6: "output shorter than needed", which returns the bytes needed
unfoldable pub refused_within : ℕ → ℕ → List ℕ → ℕ
refused_within room needed s = first_refused s (pick (ltb room needed) 6 0)

-- ---- what a log is answered

-- the frames that playing makes on a unit with a stored half-clock and remainder
abbrev pub frames_by : Meter → Sums → ℕ
frames_by m sums = frames_from 48 K m sums.halves

-- and the bytes: those of frames and of reads
abbrev pub bytes_by : Meter → Sums → ℕ
bytes_by m sums = frames_by m sums * frame_length + sums.read_bytes

-- "The answer carries bytes written, frames, and the number of clock calls that the records asked for", and the records
abbrev pub played_as : ℕ → ℕ → Sums → Played
played_as written frames sums = record { written = written; frames = frames; clocks = sums.calls; records = sums.records }

-- with bytes and frames by the formula
abbrev pub played_by : Meter → Sums → Played
played_by m sums = played_as (bytes_by m sums) (frames_by m sums) sums

-- the answer that is no refusal
abbrev pub done_as : ℕ → ℕ → Sums → LogAnswer
done_as written frames sums = Ok (played_as written frames sums)

-- 5: "a wrong record", or what is said of good ones
abbrev pub or_wrong : Option ℕ → LogAnswer → LogAnswer
or_wrong None a = a
or_wrong (Some place) a = Err (WrongRecord place)

-- "3 to 6 are tried in that order": 3 to 5 of them, of a log that makes so many bytes and frames
unfoldable pub scanned_as : ℕ → ℕ → List ℕ → LogAnswer
scanned_as written frames s =
    pick (too_long s) (Err TooLong)
    (pick (bad_start s) (Err BadStart)
    (or_wrong (wrong_in (records_of s)) (done_as written frames (summed (listed s)))))

-- with bytes and frames by the formula
abbrev pub scanned_from : Meter → List ℕ → LogAnswer
scanned_from m s = let sums = summed (listed s) in scanned_as (bytes_by m sums) (frames_by m sums) s

-- 6: "output shorter than needed"
unfoldable pub within_room : ℕ → LogAnswer → LogAnswer
within_room room (Ok played) = pick (ltb room played.written) (Err (TooShort played.written)) (Ok played)
within_room room (Err r) = Err r

-- the output after it: the bytes at its front, and "Bytes past those written stay"; with a refusal all of them stay
abbrev pub out_after : LogAnswer → List ℕ → List ℕ → List ℕ
out_after (Ok played) bytes out = bytes ++ drop (length bytes) out
out_after (Err r) bytes out = out

-- lent numbers after it: frames, clock calls and records at the front where three fit; with a refusal all of them stay
unfoldable pub counts_after : {E : Type 0} → Result Played E → List ℕ → List ℕ
counts_after (Ok played) counts = pick (leb 3 (length counts)) (sets counts 0 (played.frames ∷ played.clocks ∷ played.records ∷ [])) counts
counts_after (Err r) counts = counts

-- sums of which the bytes stay in 48 bits
pub record Small (sums : Sums) : Type 0 where
  pub halves : sums.halves < 2 ^ 40
  pub read_bytes : sums.read_bytes < 2 ^ 40
