-- What is to come of a log, taken by rows of records and by calls of the clock record at the place. Assumes nothing.
use Prim.Native.Nat.{ℕ, zero, suc, ◌+◌, ◌-◌, ◌≤◌, ◌<◌}
use mathlib.Core.Path.{◌≡◌, refl, sym, ◌∙◌, ap}
use mathlib.Core.Bool.{false}
use mathlib.Core.List.{List, [], ◌∷◌, ◌++◌, append-nil, append_assoc}
use native.Mathlib.Nat.{sub-zero}
use native.Mathlib.Omega.{arith}
use Rattle.std.specs.Prelude.{Option, Some, None, Ok}
use Rattle.ground.specs.Pick.{pick}
use Rattle.ground.specs.Iterate.{iterate}
use Rattle.log_records.specs.Judge.{Judged}
use Rattle.log_records.specs.declared.judge.Record.TheVariants.{Clock}
use Rattle.log_records.specs.declared.judge.Clocks.{Clocks}
use Rattle.log_records.specs.Records.{Parsed, clocks_at, clock_end, records_from, unrolled}
use Rattle.log_records.proofs.Framing.{clocks_stand}
use Rattle.apu_run.specs.Working.{Take, working_on, ran_of}
use Rattle.apu_run.proofs.Rows.{rows, rows_none}
use Rattle.apu_run.proofs.Marks.{front, ran_front}
use Rattle.apu_run.proofs.Turns.{none, Later, rows_behind}
use Rattle.log_player.specs.declared.reckon.Reckoned.{Reckoned}
use Rattle.log_player.specs.Playing.{bytes_of, unit_after, output, unit_at_end}
use Rattle.log_player.specs.Coming.{records_on, calls_on, coming_at, Between, ahead, stepped, stepped_on}

-- ---- rows of records
abbrev pub record_on : Judged → Take → Take
record_on r t = record { apu = unit_after r t.apu; bytes = t.bytes ++ bytes_of r t.apu }

pub records_none : (t : Take) → records_on [] t ≡ t
unfolding output unit_at_end
records_none t = ap (λ (y : List ℕ). record { apu = t.apu; bytes = y }) (append-nil t.bytes)

pub records_first : (r : Judged) (l : List Judged) (t : Take) → records_on (r ∷ l) t ≡ records_on l (record_on r t)
unfolding output unit_at_end
records_first r l t = ap (λ (y : List ℕ). record { apu = unit_at_end l (unit_after r t.apu); bytes = y }) (sym (append_assoc t.bytes _ _))

records_behind : (l : List Judged) (x : List ℕ) (t : Take) → records_on l (front x t) ≡ front x (records_on l t)
records_behind l x t = ap (λ (y : List ℕ). record { apu = unit_at_end l t.apu; bytes = y }) (append_assoc x t.bytes (output l t.apu))

-- the bytes before stay in front
calls_behind : (c : Option Clocks) (i : ℕ) (x : List ℕ) (t : Take) → calls_on c i (front x t) ≡ front x (calls_on c i t)
calls_behind None i x t = refl
calls_behind (Some c) i x t = rows_behind c.double c.divider i (c.count - i) x t

pub coming_behind : (v : ℕ) (s : List ℕ) (at call : ℕ) (x : List ℕ) (t : Take) → coming_at v s at call (front x t) ≡ front x (coming_at v s at call t)
unfolding coming_at
coming_behind v s at zero x t = records_behind (unrolled (records_from v s at)) x t
coming_behind v s at (suc i) x t =
    let c = clocks_at v s at in
    let l = unrolled (records_from v s (clock_end v at)) in
    ap (records_on l) (calls_behind c (suc i) x t) ∙ records_behind l x (calls_on c (suc i) t)

abbrev pub coming : ℕ → List ℕ → ℕ → ℕ → Later
coming v s at call = record { on = coming_at v s at call; behind = coming_behind v s at call }

-- ---- a place between two calls
pub between_first : (v : ℕ) (s : List ℕ) (at : ℕ) → Between v s at 0
between_first v s at = record { within = λ c e. omega (arith, (clocks_stand v s at e).some); none = λ e. refl }

module _ (v : ℕ) (s : List ℕ) (at : ℕ) {c : Clocks} (found : clocks_at v s at ≡ Some c) where
  abbrev after : List Judged
  after = unrolled (records_from v s (clock_end v at))

  -- what is to come of a clock record's calls and of the records after it
  abbrev pub calls_at : ℕ → Take → Take
  calls_at i t = records_on after (calls_on (Some c) i t)

  pub coming_calls : (i : ℕ) (t : Take) → coming_at v s at i t ≡ calls_at i t
  unfolding coming_at
  coming_calls zero t =
      ap (λ (p : Parsed). records_on (unrolled p) t) (clocks_stand v s at found).is
      ∙ records_first (Ok (Clock c.double c.divider c.count)) after t
      ∙ ap (λ (n : ℕ). records_on after (rows c.double c.divider 0 n t)) (sym (sub-zero c.count))
  coming_calls (suc i) t = ap (λ (o : Option Clocks). records_on after (calls_on o (suc i) t)) found

  -- some calls on: within the record, or before the next
  pub record Passed (i some : ℕ) (at' call' : ℕ) : Type 0 where
    pub coming : (t : Take) → calls_at (i + some) t ≡ coming_at v s at' call' t
    pub place : Between v s at' call'
    pub less : ahead s at' call' + 1 ≤ ahead s at i

  pub passed_some : (i some : ℕ) → 1 ≤ some → i + some < c.count → Passed i some at (i + some)
  unfolding ahead
  passed_some i some h l =
      record {
        coming = λ t. sym (coming_calls (i + some) t);
        place =
            record {
              within = λ d e. let f : Some c ≡ Some d = sym found ∙ e in let same : c ≡ d = cc in rw (← same) l;
              none = λ e. let f : Some c ≡ None = sym found ∙ e in let z : ◌≡◌ {A = ℕ} 0 1 = cc in absurd (omega arith);
            };
        less = omega (arith, (clocks_stand v s at found).further, (clocks_stand v s at found).fits, (clocks_stand v s at found).few);
      }

  pub passed_all : (i some : ℕ) → i < c.count → i + some ≡ c.count → Passed i some (clock_end v at) 0
  unfolding ahead coming_at
  passed_all i some h e =
      record {
        coming = over;
        place = between_first v s (clock_end v at);
        less = omega (arith, (clocks_stand v s at found).further, (clocks_stand v s at found).fits, (clocks_stand v s at found).few);
      }
    where
      over : (t : Take) → calls_at (i + some) t ≡ records_on after t
      over t =
          let d = c.divider in
          let z : c.count - (i + some) ≡ 0 = omega arith in
          ap (records_on after) (ap (λ (n : ℕ). rows c.double d (i + some) n t) z ∙ rows_none c.double d (i + some) t)

-- ---- the sequencer's step and the clocks after it
pub stepped_none : (r : Reckoned) → r.fell ≡ false → r.more ≡ 0 → (t : Take) → stepped_on r t ≡ t
unfolding iterate pick
stepped_none r e z t = rw (e, z)

pub stepped_front : (r : Reckoned) (t : Take) → stepped_on r t ≡ front t.bytes (ran_of r.more (stepped r t.apu))
stepped_front r t =
    ap (λ (l : List ℕ). iterate r.more working_on (record { apu = stepped r t.apu; bytes = l })) (sym (append-nil t.bytes))
    ∙ ran_front r.more t.bytes (none (stepped r t.apu))
