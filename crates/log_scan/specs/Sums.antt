-- What records ask for, and sums of it over the records of a log. Assumes nothing.
use Rattle.std.specs.Prelude.{ℕ, ◌+◌, ◌*◌, List, [], ◌∷◌, Ok, Err}
use Rattle.clocks.specs.Calls.{half_clocks_of}
use Rattle.log_records.specs.Judge.{Judged}
use Rattle.log_records.specs.declared.judge.Record.TheVariants.{Write, Read, Clock, Pcm}

-- the clock calls that a record asks for
abbrev pub asks : Judged → ℕ
asks (Ok (Write addr value)) = 0
asks (Ok (Read addr)) = 0
asks (Ok (Clock double divider count)) = count
asks (Ok Pcm) = 0
asks (Err fault) = 0

-- the half-clocks of those: "Normal speed adds 2 half-clocks, double speed 1"
abbrev pub halves_of : Judged → ℕ
halves_of (Ok (Write addr value)) = 0
halves_of (Ok (Read addr)) = 0
halves_of (Ok (Clock double divider count)) = count * half_clocks_of double
halves_of (Ok Pcm) = 0
halves_of (Err fault) = 0

-- the bytes that its reads make: "per read 52 and the byte; for kind 04 50 and both bytes"
abbrev pub read_bytes_of : Judged → ℕ
read_bytes_of (Ok (Write addr value)) = 0
read_bytes_of (Ok (Read addr)) = 2
read_bytes_of (Ok (Clock double divider count)) = 0
read_bytes_of (Ok Pcm) = 3
read_bytes_of (Err fault) = 0

-- "the sum over the log's records"
unfoldable pub sum_of : (Judged → ℕ) → List Judged → ℕ
sum_of f [] = 0
sum_of f (r ∷ l) = f r + sum_of f l
