-- What a record's body says in a log of a version, from document 01, "The access log": "judged as a part by itself", and request 2026-02. Assumes nothing.
use Rattle.std.specs.Prelude.{ℕ, ◌+◌, ◌-◌, ◌*◌, List, Bool, ◌&&◌, length, get_or, leb, eqb}
use Rattle.std.specs.Prelude.{Option, Some, None, Result, Ok, Err}
use Rattle.ground.specs.Pick.{pick}
use Rattle.ground.specs.Num.{is_sound}
use Rattle.log_records.specs.Divider.{phase_of}
use Rattle.log_records.specs.declared.divider.Divider.{Divider}
use Rattle.log_records.specs.declared.divider.Divider.TheVariants.{Standing, Running}
use Rattle.log_records.specs.declared.judge.Record.{Record}
use Rattle.log_records.specs.declared.judge.WrongRecord.{WrongRecord}
use Rattle.log_records.specs.declared.judge.Clocks.{Clocks}
use Rattle.log_records.specs.declared.judge.Record.TheVariants.{Write, Read, Clock, Pcm}

-- what a body is judged as: a record, or wrong
abbrev pub Judged : Type 0
Judged = Result Record WrongRecord

abbrev pub wrong : Judged
wrong = Err (record {})

-- "two bytes, big-endian": those at i and i + 1
abbrev pub word : List ℕ → ℕ → ℕ
word s i = get_or s i 0 * 256 + get_or s (i + 1) 0

-- "01 address data (4 bytes)", "Address (FF10..FF3F)"
unfoldable pub write_of : List ℕ → Judged
write_of s = pick (eqb (length s) 4) (pick (is_sound (word s 1)) (Ok (Write (word s 1) (get_or s 3 0))) wrong) wrong

-- "02 address (3)"
unfoldable pub read_of : List ℕ → Judged
read_of s = pick (eqb (length s) 3) (pick (is_sound (word s 1)) (Ok (Read (word s 1))) wrong) wrong

-- "03 speed .. divider count (5)"; version 2 "puts a phase byte .. after the divider (body 6 bytes)"
unfoldable pub clock_length : ℕ → ℕ
clock_length version = pick (eqb version 1) 5 6

unfoldable pub divider_in : ℕ → List ℕ → Divider
divider_in version s = pick (eqb version 1) (Standing (get_or s 2 0) 0) (Running (get_or s 2 0) (get_or s 3 0))

-- the count is last
abbrev pub count_in : ℕ → List ℕ → ℕ
count_in version s = word s (clock_length version - 2)

-- "speed (0, or 1 double)", "a phase byte, 0 to 63", "count 1..16,384 calls"
abbrev pub fair_of : ℕ → ℕ → ℕ → Bool
fair_of speed phase count = leb speed 1 && (leb phase 63 && (leb 1 count && leb count 16384))

-- "03 speed .. divider .. count"
unfoldable pub clock_of : ℕ → List ℕ → Judged
clock_of version s =
    let divider = divider_in version s in
    let count = count_in version s in
    pick (eqb (length s) (clock_length version))
    (pick (fair_of (get_or s 1 0) (phase_of divider) count) (Ok (Clock (eqb (get_or s 1 0) 1) divider count)) wrong)
    wrong

-- "04 both PCM reads (1)"
unfoldable pub pcm_of : List ℕ → Judged
pcm_of s = pick (eqb (length s) 1) (Ok Pcm) wrong

-- by the kind, which is the first byte; "Other bodies .. are wrong"
unfoldable pub judge_of : ℕ → List ℕ → Judged
judge_of version s =
    pick (eqb (length s) 0) wrong
    (pick (eqb (get_or s 0 0) 1) (write_of s)
    (pick (eqb (get_or s 0 0) 2) (read_of s)
    (pick (eqb (get_or s 0 0) 3) (clock_of version s)
    (pick (eqb (get_or s 0 0) 4) (pcm_of s)
    wrong))))

-- ---- clock records by themselves: for the players alone

-- what a clock record says that ends at a place; no other record is one
abbrev pub clocks_of : ℕ → Judged → Option Clocks
clocks_of end (Ok (Write addr value)) = None
clocks_of end (Ok (Read addr)) = None
clocks_of end (Ok (Clock double divider count)) = Some (record { double = double; divider = divider; count = count; end = end })
clocks_of end (Ok Pcm) = None
clocks_of end (Err fault) = None
