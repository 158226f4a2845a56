-- Register bits that several groups share, as in Pan Docs, and their OR masks from document 01, "Registers and power". Assumes nothing.
use Rattle.std.specs.Prelude.{ℕ, ◌+◌, ◌*◌, ◌/◌, ◌%◌, Bool, eqb, leb}
use Rattle.ground.specs.Pick.{pick}
use Rattle.channel_parts.specs.declared.length.Length.{Length}

-- FF13, FF18, FF1D: the low eight bits of a frequency
abbrev pub low_written : ℕ → ℕ → ℕ
low_written frequency value = frequency / 256 * 256 + value

-- FFx4 (not noise): the high three bits of a frequency
abbrev pub high_written : ℕ → ℕ → ℕ
high_written frequency value = frequency % 256 + value % 8 * 256

-- FFx4: bit 6 is the length enable, bit 7 the trigger
abbrev pub enable_of : ℕ → Bool
enable_of value = eqb (value / 64 % 2) 1

abbrev pub trigger_of : ℕ → Bool
trigger_of value = leb 128 value

-- FFx4 reads with the mask BF
abbrev pub control_byte : Length → ℕ
control_byte l = 0xBF + pick l.counter_decrease_enable 64 0
