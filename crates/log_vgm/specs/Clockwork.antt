-- The clock calls that samples become, from request 2026-05. Assumes nothing.
use Rattle.std.specs.Prelude.{ℕ, ◌+◌, ◌*◌, ◌/◌, ◌%◌}
use Rattle.log_vgm.specs.declared.command.Command.{Command}
use Rattle.log_vgm.specs.declared.command.Command.TheVariants.{Store, Wait}
use Rattle.log_vgm.specs.declared.command.Taken.{Taken}
use Rattle.log_vgm.specs.declared.clockwork.Clockwork.{Clockwork}
use Rattle.log_vgm.specs.declared.clockwork.Walk.{Walk}

-- "The clock count up to sample s is s times 262144/11025 rounded down."
abbrev pub calls_at : ℕ → ℕ
calls_at s = s * 262144 / 11025

-- the samples up to the end of a command
abbrev pub sample_after : ℕ → Command → ℕ
sample_after s (Store register value) = s
sample_after s (Wait samples) = s + samples

-- ---- for the code alone, which keeps no count that grows with the file (that it counts the same: `moved_at` and `calls-at` of proofs/Counted.antt)

-- what it keeps at sample s: the 11,025ths of a call that are left over, and the calls modulo 16,384
abbrev pub clockwork_at : ℕ → Clockwork
clockwork_at s = record { rest = s * 262144 % 11025; calls = calls_at s % 16384 }

abbrev pub parts_in : Clockwork → ℕ → ℕ
parts_in c samples = c.rest + samples * 262144

abbrev pub calls_in : Clockwork → ℕ → ℕ
calls_in c samples = parts_in c samples / 11025

abbrev pub moved_of : Clockwork → Command → Clockwork
moved_of c (Store register value) = c
moved_of c (Wait samples) = record { rest = parts_in c samples % 11025; calls = (c.calls % 16384 + calls_in c samples) % 16384 }

-- before the first command, and after one with the bytes behind its first
abbrev pub starting_at : ℕ → Walk
starting_at start = record { at = start; clockwork = clockwork_at 0 }

abbrev pub walked_of : Walk → Taken → Walk
walked_of w t = record { at = w.at + 1 + t.more; clockwork = moved_of w.clockwork t.command }
