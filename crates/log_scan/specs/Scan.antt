-- What the scan, the pass over a log before it is played, finds in some records: the first wrong one, and sums;
-- of two rows, from what each has. Assumes nothing.
use Rattle.std.specs.Prelude.{ℕ, ◌+◌, ◌^◌, ◌<◌, List, length, Option, None, Some, Ok, Err}
use Rattle.std.specs.Option.{option_or}
use Rattle.log_records.specs.Judge.{Judged}
use Rattle.log_scan.specs.declared.scan.Sums.{Sums}
use Rattle.log_scan.specs.declared.scan.Found.{Found}
use Rattle.log_records.specs.Records.{Parsed, done, short, item, unrolled}
use Rattle.log_scan.specs.Sums.{asks, halves_of, read_bytes_of, sum_of}

-- 5: "place of its first length byte"
abbrev pub wrong_mark : ℕ → Judged → Option ℕ
wrong_mark place (Ok r) = None
wrong_mark place (Err fault) = Some place

-- "first such record"; one that is cut short is wrong
unfoldable pub wrong_in : Parsed → Option ℕ
wrong_in done = None
wrong_in (short p) = Some p
wrong_in (item p r rest) = option_or (wrong_mark p r) (wrong_in rest)

-- the sums over a row of records
abbrev pub summed : List Judged → Sums
summed l = record { records = length l; calls = sum_of asks l; halves = sum_of halves_of l; read_bytes = sum_of read_bytes_of l }

-- what a row of records has
abbrev pub found_all : Parsed → Found
found_all t = record { wrong = wrong_in t; sums = summed (unrolled t) }

-- what one record has
abbrev pub one_record : ℕ → ℕ → ℕ → Sums
one_record calls halves bytes = record { records = 1; calls = calls; halves = halves; read_bytes = bytes }

abbrev pub sums_in : Judged → Sums
sums_in r = one_record (asks r) (halves_of r) (read_bytes_of r)

abbrev pub found_in : ℕ → Judged → Found
found_in place r = record { wrong = wrong_mark place r; sums = sums_in r }

-- what no records have
abbrev pub nothing : Found
nothing = record { wrong = None; sums = record { records = 0; calls = 0; halves = 0; read_bytes = 0 } }

-- one row after another
abbrev pub added : Sums → Sums → Sums
added a b =
    record {
      records = a.records + b.records;
      calls = a.calls + b.calls;
      halves = a.halves + b.halves;
      read_bytes = a.read_bytes + b.read_bytes;
    }

abbrev pub both : Found → Found → Found
both a b = record { wrong = option_or a.wrong b.wrong; sums = added a.sums b.sums }

-- sums that stay in 64 bits
pub record Fits (a b : Sums) : Type 0 where
  pub records : a.records + b.records < 2 ^ 64
  pub calls : a.calls + b.calls < 2 ^ 64
  pub halves : a.halves + b.halves < 2 ^ 64
  pub read_bytes : a.read_bytes + b.read_bytes < 2 ^ 64
