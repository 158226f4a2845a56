-- A log of a version as a row of records, each with its place, from document 01, "The access log". Assumes nothing.
use Rattle.std.specs.Prelude.{ℕ, zero, suc, ◌+◌, ◌-◌, ◌≤◌, ◌≡◌, refl, List, [], ◌∷◌, length, get_or, take, drop, ltb, leb, eqb}
use Rattle.std.specs.Prelude.{Option, Some, None, Result, Ok, Err}
use Rattle.std.proofs.Common.{arith, le-leb}
use Rattle.ground.specs.Pick.{pick}
use Rattle.log_records.specs.declared.judge.Clocks.{Clocks}
use Rattle.log_records.specs.declared.cut.CutShort.{CutShort}
use Rattle.log_records.specs.Judge.{Judged, word, clock_length, judge_of, clocks_of}

-- how a log goes on: with a body of so many bytes, not at all, or with a record cut short
abbrev pub Cut : Type 0
Cut = Result (Option ℕ) CutShort

abbrev pub cut_off : Cut
cut_off = Err (record {})

-- "two length bytes, big-endian, and the body of that many bytes"; else the log ends here, or "a record cut short"
unfoldable pub cut_at : List ℕ → ℕ → Cut
cut_at s at =
    pick (leb (length s) at) (Ok None)
    (pick (ltb (length s - at) 2) cut_off
    (pick (ltb (length s - at - 2) (word s at)) cut_off (Ok (Some (word s at)))))

-- the body at a place: n bytes after the two of its length
abbrev pub body_at : List ℕ → ℕ → ℕ → List ℕ
body_at s at n = take n (drop (at + 2) s)

-- (for the players alone) the clock record at a place: where it would end, and a body of as many bytes as a clock record's has, which lies within the log
abbrev pub clock_end : ℕ → ℕ → ℕ
clock_end version at = at + 2 + clock_length version

unfoldable pub clocks_at : ℕ → List ℕ → ℕ → Option Clocks
clocks_at version s at =
    let n = clock_length version in
    pick (leb (clock_end version at) (length s)) (pick (eqb (word s at) n) (clocks_of (clock_end version at) (judge_of version (body_at s at n))) None)
    None

-- the records in order, each with the place of its first length byte; the row ends where the log does, or at a record cut short
pub data Parsed : Type 0 where
  done : Parsed
  short : ℕ → Parsed
  item : ℕ → Judged → Parsed → Parsed

-- what stands at a place, in front of what `rest` says of the next
abbrev pub grow : ℕ → List ℕ → ℕ → (ℕ → Parsed) → Cut → Parsed
grow version s at rest (Ok None) = done
grow version s at rest (Err fault) = short at
grow version s at rest (Ok (Some n)) = item at (judge_of version (body_at s at n)) (rest (at + 2 + n))

-- the records from a place on, but no more than so many
unfoldable pub parse : ℕ → ℕ → List ℕ → ℕ → Parsed
parse version zero s at = done
parse version (suc f) s at = grow version s at (parse version f s) (cut_at s at)

-- all of them: there are no more than the log has bytes
unfoldable pub records_from : ℕ → List ℕ → ℕ → Parsed
records_from version s at = parse version (length s) s at

-- this and the next two are facts with their proofs: rests that agree on the next place give the same row
grow_same : (version : ℕ) (s : List ℕ) (at : ℕ) (f g : ℕ → Parsed) (k : Cut) → ((n : ℕ) → f (at + 2 + n) ≡ g (at + 2 + n))
    → grow version s at f k ≡ grow version s at g k
grow_same v s at f g (Ok None) h = refl
grow_same v s at f g (Err fault) h = refl
grow_same v s at f g (Ok (Some n)) h = rw (h n)

-- two counts that are both enough give the same
parse_same : (version f g : ℕ) (s : List ℕ) (at : ℕ) → length s - at ≤ f → length s - at ≤ g → parse version f s at ≡ parse version g s at
unfolding pick parse cut_at
parse_same v zero zero s at h k = refl
parse_same v zero (suc g) s at h k = let e : length s ≤ at = omega arith in simp (le-leb _ _ e)
parse_same v (suc f) zero s at h k = let e : length s ≤ at = omega arith in simp (le-leb _ _ e)
parse_same v (suc f) (suc g) s at h k =
    grow_same v s at (parse v f s) (parse v g s) (cut_at s at) (λ n. parse_same v f g s (at + 2 + n) (omega arith) (omega arith))

-- what to read `records_from` as: the records from a place on are what stands there, before the records from the next place on
pub records_step : (version : ℕ) (s : List ℕ) (at : ℕ) → records_from version s at ≡ grow version s at (records_from version s) (cut_at s at)
unfolding records_from parse
records_step v s at = parse_same v (length s) (suc (length s)) s at (omega arith) (omega arith)

-- the records without their places
abbrev pub unrolled : Parsed → List Judged
unrolled done = []
unrolled (short p) = []
unrolled (item p r rest) = r ∷ unrolled rest

-- the records of a log of a version, which begin after version and start byte
abbrev pub listed_as : ℕ → List ℕ → List Judged
listed_as version s = unrolled (records_from version s 2)

-- "Byte 0 is version"
abbrev pub version_of : List ℕ → ℕ
version_of s = get_or s 0 0

-- a log's records by its own version, with their places and without
abbrev pub records_of : List ℕ → Parsed
records_of s = records_from (version_of s) s 2

abbrev pub listed : List ℕ → List Judged
listed s = unrolled (records_of s)
