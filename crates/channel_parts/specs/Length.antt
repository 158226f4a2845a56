-- The rules of a length record, from document 01, "Channel rules". Assumes nothing.
use Rattle.std.specs.Prelude.{ℕ, ◌-◌, ◌≤◌, ◌≡◌, Bool, false, not, ◌&&◌, eqb}
use Rattle.ground.specs.Pick.{pick}
use Rattle.channel_parts.specs.declared.length.Length.{Length}
use Rattle.channel_parts.specs.declared.length.Clocked.{Clocked}

-- "Ranges held from the start": length 0..maximum, which is the channel's
pub record Held (most : ℕ) (l : Length) : Type 0 where
  pub max : l.max_length ≡ most
  pub length : l.length ≤ most
  pub counter : l.current_counter ≤ most

-- "Start: everything 0 or off"
abbrev pub fresh : ℕ → Length
fresh max = record { max_length = max; length = 0; current_counter = 0; counter_decrease_enable = false }

-- the record with another length and counter, with another counter alone, with length enabled or not
abbrev pub with_length : Length → ℕ → Length
with_length l length =
    record {
      max_length = l.max_length;
      length = length;
      current_counter = length;
      counter_decrease_enable = l.counter_decrease_enable;
    }

abbrev pub with_counter : Length → ℕ → Length
with_counter l counter =
    record {
      max_length = l.max_length;
      length = l.length;
      current_counter = counter;
      counter_decrease_enable = l.counter_decrease_enable;
    }

abbrev pub with_enable : Length → Bool → Length
with_enable l enable =
    record {
      max_length = l.max_length;
      length = l.length;
      current_counter = l.current_counter;
      counter_decrease_enable = enable;
    }

-- "A length write sets the counter to maximum less data"
abbrev pub written : Length → ℕ → Length
written l value = with_length l (l.max_length - value)

-- "Power on puts .. off DMG the lengths at maximum"
abbrev pub reset : Length → Length
reset l = with_length l l.max_length

-- "A length clock, if enabled, takes 1 off; a counter at 0 after it, or before, turns the channel off"
unfoldable pub clocked : Length → Clocked
clocked l =
    pick l.counter_decrease_enable
    (record { length = with_counter l (l.current_counter - 1); off = eqb (l.current_counter - 1) 0 })
    (record { length = l; off = false })

-- "newly enabled while the next position (position+1) is even"
abbrev pub newly_enabled : Length → Bool → Bool → Bool
newly_enabled l enable even = enable && not l.counter_decrease_enable && even

-- "An FFx4 write sets .. then length enable; newly enabled .. length is clocked at once"
unfoldable pub enabling : Length → Bool → Bool → Clocked
enabling l enable even =
    pick (newly_enabled l enable even)
    (clocked (with_enable l enable))
    (record { length = with_enable l enable; off = false })

-- "A trigger with counter 0 sets the maximum (64, wave 256), less 1 if enabled and the next position is even"
unfoldable pub triggered : Length → Bool → Length
triggered l even =
    pick (eqb l.current_counter 0)
    (with_counter l (l.max_length - pick (l.counter_decrease_enable && even) 1 0))
    l
