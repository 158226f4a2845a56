-- What the clock records of an imported log come to in its calls, from request 2026-05. Assumes nothing.
use Rattle.std.specs.Prelude.{ℕ, ◌+◌, ◌/◌, ◌%◌, ◌≤◌, ◌≡◌, List, [], ◌∷◌, Ok, Err}
use Rattle.log_records.specs.Judge.{Judged}
use Rattle.log_records.specs.Divider.{divider_at}
use Rattle.log_records.specs.declared.judge.Record.TheVariants.{Write, Read, Clock, Pcm}

-- "Divider and phase start at 0 and run through": in each call of these records, C calls being before the first, the divider is the count of calls so far
-- by 64, modulo 256
abbrev pub RunsFrom : ℕ → List Judged → Type 0
RunsFrom C [] = 0 ≤ C
RunsFrom C (Ok (Write addr value) ∷ l) = RunsFrom C l
RunsFrom C (Ok (Read addr) ∷ l) = RunsFrom C l
RunsFrom C (Ok (Clock double divider count) ∷ l) = ((i : ℕ) → divider_at divider i ≡ (C + i) / 64 % 256) × RunsFrom (C + count) l
RunsFrom C (Ok Pcm ∷ l) = RunsFrom C l
RunsFrom C (Err fault ∷ l) = RunsFrom C l
