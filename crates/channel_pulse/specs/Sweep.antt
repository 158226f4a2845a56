-- The rules of the sweep, from document 01, "Channel rules". Assumes nothing.
use Rattle.std.specs.Prelude.{ℕ, ◌+◌, ◌-◌, ◌*◌, ◌/◌, ◌%◌, ◌^◌, ◌≤◌, false, not, ◌&&◌, ◌||◌, eqb, ltb, leb}
use Rattle.ground.specs.Pick.{pick}
use Rattle.ground.specs.Num.{zero_as_eight}
use Rattle.channel_pulse.specs.With.{with_time, with_shadow, flagged}
use Rattle.channel_pulse.specs.declared.sweep.Sweep.{Sweep}
use Rattle.channel_pulse.specs.declared.sweep.Checked.{Checked}
use Rattle.channel_pulse.specs.declared.sweep.Swept.{Swept}

-- "Ranges held from the start": shadow 0..2047, sweep counters 0..8; the three bits of period and shift
pub record Held (s : Sweep) : Type 0 where
  pub period : s.period ≤ 7
  pub time : s.current_time ≤ 8
  pub shadow : s.frequency_shadow ≤ 2047
  pub shift : s.shift_n ≤ 7

-- "Start: everything 0 or off"
abbrev pub fresh : Sweep
fresh =
    record {
      period = 0;
      current_time = 0;
      internal_enable = false;
      frequency_shadow = 0;
      negate = false;
      shift_n = 0;
      calculation_happened = false;
    }

-- "An FF10 write that ends negate with the flag set turns the channel off; each one clears the flag"
abbrev pub written : Sweep → ℕ → Checked
written s value =
    record {
      sweep =
          record {
            period = value / 16 % 8;
            current_time = s.current_time;
            internal_enable = s.internal_enable;
            frequency_shadow = s.frequency_shadow;
            negate = eqb (value / 8 % 2) 1;
            shift_n = value % 8;
            calculation_happened = false;
          };
      off = s.negate && not (eqb (value / 8 % 2) 1) && s.calculation_happened;
    }

-- FF10 as Pan Docs has it: period, negate, shift
abbrev pub byte_of : Sweep → ℕ
byte_of s = s.period % 8 * 16 + pick s.negate 8 0 + s.shift_n % 8

-- "reloads the counter (period, 0 as 8)"
unfoldable pub reloaded : Sweep → Sweep
reloaded s = with_time s (zero_as_eight s.period)

-- "shadow plus or minus shadow shifted"
unfoldable pub target_of : Sweep → ℕ
target_of s =
    let shifted = s.frequency_shadow / 2 ^ s.shift_n in
    pick s.negate (s.frequency_shadow - shifted) (s.frequency_shadow + shifted)

-- "so the sum is at most 4094 and the difference never below 0", from document 02, 2026-04: what is taken off is no more than the shadow
pub record NeverWraps (shadow shift : ℕ) : Type 0 where
  pub sum : shadow + shadow / 2 ^ shift ≤ 4094
  pub difference : shadow / 2 ^ shift ≤ shadow

-- "above 2047 the channel goes off"; the "calculated" flag is set
unfoldable pub calculated : Sweep → Swept
calculated s = record { sweep = flagged s; frequency = target_of s; off = ltb 2047 (target_of s) }

-- a calculation whose result is not kept: the flag, and whether the channel goes off
unfoldable pub checked : Sweep → Checked
checked s = record { sweep = (calculated s).sweep; off = (calculated s).off }

-- "is stored in frequency and shadow and calculated again as a check"
unfoldable pub stored : Sweep → ℕ → Swept
stored s frequency =
    let again = checked (with_shadow s frequency) in
    record { sweep = again.sweep; frequency = frequency; off = again.off }

-- "A result up to 2047 with a nonzero shift is stored", else the channel's frequency stays
unfoldable pub updated : Sweep → ℕ → Swept
updated s frequency =
    let first = calculated s in
    pick (leb first.frequency 2047 && not (eqb s.shift_n 0))
    (stored first.sweep first.frequency)
    (record { sweep = first.sweep; frequency = frequency; off = first.off })

-- "at 0 it reloads and, if enabled with a nonzero period, calculates"
unfoldable pub expired : Sweep → ℕ → Swept
expired s frequency =
    pick (s.internal_enable && not (eqb s.period 0))
    (updated (reloaded s) frequency)
    (record { sweep = reloaded s; frequency = frequency; off = false })

-- "A sweep clock takes 1 off the counter, not below 0"
unfoldable pub clocked : Sweep → ℕ → Swept
clocked s frequency =
    pick (eqb (s.current_time - 1) 0)
    (expired s frequency)
    (record { sweep = with_time s (s.current_time - 1); frequency = frequency; off = false })

-- "A trigger copies the frequency to the shadow, reloads the counter (period, 0 as 8), enables if period or shift is nonzero, clears the "calculated" flag"
unfoldable pub sweep_started : Sweep → ℕ → Sweep
sweep_started s frequency =
    record {
      period = s.period;
      current_time = zero_as_eight s.period;
      internal_enable = not (eqb s.period 0) || not (eqb s.shift_n 0);
      frequency_shadow = frequency;
      negate = s.negate;
      shift_n = s.shift_n;
      calculation_happened = false;
    }

-- "and calculates if shift is nonzero"
unfoldable pub triggered : Sweep → ℕ → Checked
triggered s frequency =
    pick (eqb s.shift_n 0)
    (record { sweep = sweep_started s frequency; off = false })
    (checked (sweep_started s frequency))
