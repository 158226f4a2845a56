-- The bits that the next steps of a noise channel's register feed back, many of them as one number. For the code and its proof alone: what a step is,
-- `stepped_register` says. Assumes nothing.
use Rattle.std.specs.Prelude.{ℕ, zero, suc, ◌+◌, ◌*◌, ◌/◌, Bool, true, false}
use Rattle.std.specs.Int.Bits.{bit_xor}
use Rattle.channel_noise.specs.Noise.{feedback_of}

-- where a row of bits changes: bit i is bit i of the row xor bit i + 1
unfoldable pub changes_of : ℕ → ℕ
changes_of row = bit_xor row (row / 2)

-- the row that steps read, all 15 bits or in 7-bit mode the lowest 7, after a step: one place down, "x to bit 14, in 7-bit mode to bit 6"
abbrev pub moved_down : Bool → ℕ → ℕ
moved_down true row = row / 2 + feedback_of row * 64
moved_down false row = row / 2 + feedback_of row * 16384

-- the x of each of the next n steps of such a row, the first step's lowest
unfoldable pub fed : Bool → ℕ → ℕ → ℕ
fed narrow zero row = 0
fed narrow (suc n) row = feedback_of row + fed narrow n (moved_down narrow row) * 2
