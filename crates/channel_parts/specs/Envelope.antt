-- The rules of an envelope, from document 01, "Channel rules". Assumes nothing.
use Rattle.std.specs.Prelude.{ℕ, ◌+◌, ◌-◌, ◌*◌, ◌/◌, ◌%◌, ◌≤◌, Bool, true, false, not, ◌&&◌, eqb, ltb}
use Rattle.ground.specs.Pick.{pick}
use Rattle.ground.specs.Num.{zero_as_eight}
use Rattle.channel_parts.specs.declared.envelope.Envelope.{Envelope}

-- "Ranges held from the start": volumes 0..15, envelope counters 0..8; the period's three bits
pub record Held (e : Envelope) : Type 0 where
  pub starting : e.starting_volume ≤ 15
  pub current : e.current_volume ≤ 15
  pub period : e.period ≤ 7
  pub counter : e.counter ≤ 8

-- "Start: everything 0 or off"
abbrev pub fresh : Envelope
fresh = record { starting_volume = 0; current_volume = 0; sweep_increase = false; period = 0; envelope_can_run = false; counter = 0 }

-- "an FFx2 write sets the volume at once .. both set the counter to the period"
abbrev pub written : Envelope → ℕ → Envelope
written e value =
    record {
      starting_volume = value / 16;
      current_volume = value / 16;
      sweep_increase = eqb (value / 8 % 2) 1;
      period = value % 8;
      envelope_can_run = e.envelope_can_run;
      counter = value % 8;
    }

-- FFx2 as Pan Docs has it: volume, direction, period
abbrev pub byte_of : Envelope → ℕ
byte_of e = e.starting_volume % 16 * 16 + pick e.sweep_increase 8 0 + e.period % 8

-- "a channel's trigger sets it again and lets it run; both set the counter to the period"
abbrev pub triggered : Envelope → Envelope
triggered e =
    record {
      starting_volume = e.starting_volume;
      current_volume = e.starting_volume;
      sweep_increase = e.sweep_increase;
      period = e.period;
      envelope_can_run = true;
      counter = e.period;
    }

-- "steps within 0..15": up from a volume below 15, down not below 0
unfoldable pub step_volume : ℕ → Bool → ℕ
step_volume volume increase = pick increase (pick (ltb volume 15) (volume + 1) volume) (volume - 1)

-- "At 0 or 15 after this, moved or not, it stops till trigger"
abbrev pub goes_on : ℕ → Bool
goes_on volume = not (eqb volume 0) && not (eqb volume 15)

-- a step: the volume, and whether it runs on
unfoldable pub stepped : Envelope → Envelope
stepped e =
    let volume = step_volume e.current_volume e.sweep_increase in
    record {
      starting_volume = e.starting_volume;
      current_volume = volume;
      sweep_increase = e.sweep_increase;
      period = e.period;
      envelope_can_run = goes_on volume;
      counter = e.counter;
    }

-- the envelope with another counter
abbrev pub with_counter : Envelope → ℕ → Envelope
with_counter e counter =
    record {
      starting_volume = e.starting_volume;
      current_volume = e.current_volume;
      sweep_increase = e.sweep_increase;
      period = e.period;
      envelope_can_run = e.envelope_can_run;
      counter = counter;
    }

-- "if running with a nonzero period"
abbrev pub runs : Envelope → Bool
runs e = e.envelope_can_run && not (eqb e.period 0)

-- "at 0 it reloads (0 as 8) and, if running with a nonzero period, steps"
unfoldable pub expired : Envelope → Envelope
expired e =
    let next = with_counter e (zero_as_eight e.period) in
    pick (runs e) (stepped next) next

-- "A clock takes 1 off, not below 0"
unfoldable pub clocked : Envelope → Envelope
clocked e = pick (eqb (e.counter - 1) 0) (expired e) (with_counter e (e.counter - 1))
