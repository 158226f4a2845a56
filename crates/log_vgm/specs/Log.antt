-- The records that the commands of a VGM file become, and the bytes of the log that has them, from request 2026-05. Assumes nothing.
use Rattle.std.specs.Prelude.{ℕ, zero, suc, ◌+◌, ◌-◌, ◌*◌, ◌/◌, ◌%◌, ◌≤◌, false, List, [], ◌∷◌, ◌++◌, eqb, Ok, Err}
use Rattle.ground.specs.Pick.{pick}
use Rattle.log_records.specs.Judge.{Judged}
use Rattle.log_records.specs.Divider.{byte_of, phase_of}
use Rattle.log_records.specs.declared.divider.Divider.TheVariants.{Running}
use Rattle.log_records.specs.declared.judge.Record.TheVariants.{Write, Read, Clock, Pcm}
use Rattle.log_vgm.specs.declared.command.Command.{Command}
use Rattle.log_vgm.specs.declared.command.Command.TheVariants.{Store, Wait}
use Rattle.log_vgm.specs.declared.clockwork.Clockwork.{Clockwork}
use Rattle.log_vgm.specs.Header.{start_of}
use Rattle.log_vgm.specs.Commands.{Track, ended, stopped, after, commands_from}
use Rattle.log_vgm.specs.Clockwork.{calls_at, sample_after, calls_in, moved_of}

-- "registers 00 to 2F (FF10 up)"
abbrev pub write_record : ℕ → ℕ → Judged
write_record register value = Ok (Write (0xFF10 + register) value)

-- so many calls at "normal speed"; "Divider and phase start at 0 and run through": both are those after C calls, of which 64 move the divider on by 1
abbrev pub clock_record : ℕ → ℕ → Judged
clock_record C calls = Ok (Clock false (Running (C / 64 % 256) (C % 64)) calls)

-- "Each wait becomes records of 16,384 calls": k of them, C calls being before the first
unfoldable pub wholes : ℕ → ℕ → List Judged
wholes C zero = []
wholes C (suc k) = clock_record C 16384 ∷ wholes (C + 16384) k

-- "and one for the rest, if any"
unfoldable pub rest_of : ℕ → ℕ → List Judged
rest_of C calls = pick (eqb calls 0) [] (clock_record C calls ∷ [])

-- a wait of so many calls
abbrev pub wait_records : ℕ → ℕ → List Judged
wait_records C calls = wholes C (calls / 16384) ++ rest_of (C + calls / 16384 * 16384) (calls % 16384)

-- the records of a command that comes at sample s; a wait has the calls between the clock counts at its two ends
abbrev pub records_at : ℕ → Command → List Judged
records_at s (Store register value) = write_record register value ∷ []
records_at s (Wait samples) = wait_records (calls_at s) (calls_at (s + samples) - calls_at s)

-- "The register order is kept": those of all commands, the first at sample s
unfoldable pub records_on : ℕ → Track → List Judged
records_on s ended = []
records_on s (stopped place) = []
records_on s (after command rest) = records_at s command ++ records_on (sample_after s command) rest

-- "an FF26 write of 80 first"
abbrev pub power_on : Judged
power_on = write_record 0x16 0x80

-- the records of a file
abbrev pub track_of : List ℕ → Track
track_of s = commands_from s (start_of s)

abbrev pub imported_records : List ℕ → List Judged
imported_records s = power_on ∷ records_on 0 (track_of s)

-- document 01's bytes of a record in a log of version 2: two length bytes, then the body; what is no record has none
abbrev pub record_bytes : Judged → List ℕ
record_bytes (Ok (Write addr value)) = 0 ∷ 4 ∷ 1 ∷ addr / 256 ∷ addr % 256 ∷ value ∷ []
record_bytes (Ok (Read addr)) = 0 ∷ 3 ∷ 2 ∷ addr / 256 ∷ addr % 256 ∷ []
record_bytes (Ok (Clock double divider count)) =
    0 ∷ 6 ∷ 3 ∷ pick double 1 0 ∷ byte_of divider ∷ phase_of divider ∷ count / 256 ∷ count % 256 ∷ []
record_bytes (Ok Pcm) = 0 ∷ 1 ∷ 4 ∷ []
record_bytes (Err fault) = []

-- one after the other
unfoldable pub written : List Judged → List ℕ
written [] = []
written (r ∷ l) = record_bytes r ++ written l

-- "Write a version 2 log, normal speed, start byte 1"
abbrev pub log_of : List ℕ → List ℕ
log_of s = 2 ∷ 1 ∷ written (imported_records s)

-- ---- for the code alone, from what it keeps of the samples (that it is the same: `bytes_at` of proofs/Counted.antt)
abbrev pub records_by : Clockwork → Command → List Judged
records_by c (Store register value) = write_record register value ∷ []
records_by c (Wait samples) = wait_records c.calls (calls_in c samples)

abbrev pub bytes_by : Clockwork → Command → List ℕ
bytes_by c command = written (records_by c command)

unfoldable pub bytes_on : Clockwork → Track → List ℕ
bytes_on c ended = []
bytes_on c (stopped place) = []
bytes_on c (after command rest) = bytes_by c command ++ bytes_on (moved_of c command) rest

-- a command's register is in its range
abbrev pub Low : Command → Type 0
Low (Store register value) = register ≤ 0x2F
Low (Wait samples) = 0 ≤ samples

-- the bytes of a wait's records: 8 each
unfoldable pub wait_bytes : ℕ → ℕ
wait_bytes calls = calls / 16384 * 8 + pick (eqb (calls % 16384) 0) 0 8

-- the bytes before those of the commands
abbrev pub opening : List ℕ
opening = 2 ∷ 1 ∷ record_bytes power_on
