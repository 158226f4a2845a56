-- What follows for clock records from the divider of each call, request 2026-02: a record may be cut in two, and between two steps of its divider one that
-- runs is one that stands. Assumes nothing.
use Rattle.std.specs.Prelude.{ℕ, ◌+◌, ◌%◌, ◌≤◌, ◌≡◌, Bool, ◌++◌, Ok}
use Rattle.apu.specs.declared.Apu.{Apu}
use Rattle.log_records.specs.Divider.{divider_at}
use Rattle.log_records.specs.declared.divider.Divider.{Divider}
use Rattle.log_records.specs.declared.divider.Divider.TheVariants.{Standing, Running}
use Rattle.log_records.specs.declared.judge.Record.TheVariants.{Clock}
use Rattle.log_player.specs.Playing.{bytes_of, unit_after}

-- what a record says of the divider that begins so many calls on
abbrev pub onward : Divider → ℕ → Divider
onward (Standing byte phase) calls = Standing byte phase
onward (Running byte phase) calls = Running (divider_at (Running byte phase) calls) ((phase + calls) % 64)

pub record Cuts : Type 0 where
  -- the first j calls, and the others
  pub cut_bytes : (double : Bool) (d : Divider) (j k : ℕ) (a : Apu)
      → bytes_of (Ok (Clock double d (j + k))) a
      ≡ bytes_of (Ok (Clock double d j)) a ++ bytes_of (Ok (Clock double (onward d j) k)) (unit_after (Ok (Clock double d j)) a)
  pub cut_unit : (double : Bool) (d : Divider) (j k : ℕ) (a : Apu)
      → unit_after (Ok (Clock double d (j + k))) a ≡ unit_after (Ok (Clock double (onward d j) k)) (unit_after (Ok (Clock double d j)) a)
  -- calls before the next step
  pub near_bytes : (double : Bool) (byte phase count : ℕ) (a : Apu) → byte ≤ 255 → phase + count ≤ 64
      → bytes_of (Ok (Clock double (Running byte phase) count)) a ≡ bytes_of (Ok (Clock double (Standing byte 0) count)) a
  pub near_unit : (double : Bool) (byte phase count : ℕ) (a : Apu) → byte ≤ 255 → phase + count ≤ 64
      → unit_after (Ok (Clock double (Running byte phase) count)) a ≡ unit_after (Ok (Clock double (Standing byte 0) count)) a
