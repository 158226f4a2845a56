-- What is still to come of a log, from a place between two calls of it, and what a player that reckons ahead owes there. For the proof of `play_list` alone:
-- no promise to a caller is made in these words. Assumes nothing.
use Rattle.std.specs.Prelude.{ℕ, zero, suc, ◌+◌, ◌-◌, ◌*◌, ◌≤◌, ◌<◌, ◌≡◌, Bool, true, false, ◌&&◌, List, ◌++◌, leb, length, Option, Some, None}
use Rattle.ground.specs.Pick.{pick}
use Rattle.ground.specs.Iterate.{iterate}
use Rattle.apu.specs.declared.Apu.{Apu}
use Rattle.apu_clock.specs.Sequencer.{advanced, idles_of}
use Rattle.apu_run.specs.Working.{Take, working_on, ran_of}
use Rattle.apu_run.specs.Calls.{clocks_bytes, after_clocks}
use Rattle.apu_run.specs.Owed.{marked}
use Rattle.log_records.specs.Judge.{Judged}
use Rattle.log_records.specs.declared.judge.Clocks.{Clocks}
use Rattle.log_records.specs.Records.{clocks_at, clock_end, records_from, unrolled}
use Rattle.log_player.specs.declared.reckon.Reckoned.{Reckoned}
use Rattle.log_player.specs.Playing.{output, unit_at_end}

-- ---- what is to come, on a unit and the bytes that it has made

-- a row of records
abbrev pub records_on : List Judged → Take → Take
records_on l t = record { apu = unit_at_end l t.apu; bytes = t.bytes ++ output l t.apu }

-- the calls of a clock record, if there is one, from call i on
abbrev pub calls_on : Option Clocks → ℕ → Take → Take
calls_on None i t = t
calls_on (Some c) i t =
    let d = c.divider in
    let k = c.count - i in
    record { apu = after_clocks c.double d i k t.apu; bytes = t.bytes ++ clocks_bytes c.double d i k t.apu }

-- a log of version v from a place on, of whose first record, a clock record, so many calls are past
unfoldable pub coming_at : ℕ → List ℕ → ℕ → ℕ → Take → Take
coming_at v s at zero t = records_on (unrolled (records_from v s at)) t
coming_at v s at (suc i) t = records_on (unrolled (records_from v s (clock_end v at))) (calls_on (clocks_at v s at) (suc i) t)

-- a place between two calls: only a clock record has calls that are past, and not all of them are
pub record Between (v : ℕ) (s : List ℕ) (at call : ℕ) : Type 0 where
  pub within : (c : Clocks) → clocks_at v s at ≡ Some c → call < c.count
  pub none : clocks_at v s at ≡ None → call ≡ 0

-- how much that is: a record has at least two bytes and at most 16,384 calls
unfoldable pub ahead : List ℕ → ℕ → ℕ → ℕ
ahead s at call = (length s - at) * 16385 - call

-- ---- what a player owes

abbrev pub begins_at : ℕ → Reckoned
begins_at at = record { at = at; call = 0; owed = 0; more = 0; half = 0; stored = false; fell = false }

-- after the working clocks owed: the sequencer's step, if the bit fell, and more working clocks
abbrev pub stepped : Reckoned → Apu → Apu
stepped r a = pick r.fell (advanced a) a

abbrev pub stepped_on : Reckoned → Take → Take
stepped_on r t = iterate r.more working_on (record { apu = stepped r t.apu; bytes = t.bytes })

-- owing what `r` says at its place is, for every unit with that power, owing `more` at the place (at, call), with those half-clocks and that stored bit
pub record Reckons (v : ℕ) (s : List ℕ) (at call more : ℕ) (power : Bool) (half : ℕ) (stored : Bool) (r : Reckoned) : Type 0 where
  pub same : (a : Apu) → a.power ≡ power
      → coming_at v s at call (ran_of more (marked a half stored))
      ≡ coming_at v s r.at r.call (stepped_on r (ran_of r.owed (marked a r.half r.stored)))
  pub place : Between v s r.at r.call
  pub halves : r.half ≤ 1
  pub few : r.owed ≤ 32767
  pub fewer : r.more ≤ 16383
  -- every clock owed comes from a call that is past, or was owed before
  pub less : ahead s r.at r.call * 65536 + r.owed + r.more ≤ ahead s at call * 65536 + more
  -- and a fall passes at least one
  pub falls : r.fell ≡ true → ahead s r.at r.call * 65536 + r.owed + r.more + 1 ≤ ahead s at call * 65536 + more

-- nothing is owed: the place is before a record
abbrev pub Idle : Reckoned → Type 0
Idle r = (r.call ≡ 0) × ((r.more ≡ 0) × (r.fell ≡ false))

-- the step that is owed moves the position alone, and what is owed before and after it is within `reckon`'s bound
abbrev pub waits_of : Reckoned → Apu → Bool
waits_of r a = r.fell && leb (r.owed + r.more) 16383 && idles_of a
