-- The divider that the calls of a clock record see, from document 01, "The access log", and request 2026-02. Assumes nothing.
use Rattle.std.specs.Prelude.{ℕ, ◌+◌, ◌/◌, ◌%◌}
use Rattle.log_records.specs.declared.divider.Divider.{Divider}
use Rattle.log_records.specs.declared.divider.Divider.TheVariants.{Standing, Running}

-- version 1: "calls with that one divider"; version 2: "a phase byte .. after the divider"
abbrev pub byte_of : Divider → ℕ
byte_of (Standing byte phase) = byte
byte_of (Running byte phase) = byte

abbrev pub phase_of : Divider → ℕ
phase_of (Standing byte phase) = phase
phase_of (Running byte phase) = phase

-- "In call i from 0 the divider is the byte plus (phase + i)/64 rounded down, modulo 256, at either speed"; one that stands is its byte in every call
unfoldable pub divider_at : Divider → ℕ → ℕ
divider_at (Standing byte phase) i = byte
divider_at (Running byte phase) i = (byte + (phase + i) / 64) % 256
