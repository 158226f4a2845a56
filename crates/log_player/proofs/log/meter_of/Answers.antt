-- The half-clock is 0 or 1, and a kept counter is a whole number of units. Assumes nothing.
use Prim.Native.Nat.{ℕ, ◌^◌, ◌≤◌, ◌<◌}
use native.Mathlib.Omega.{arith}
use Rattle.log_player.proofs.log.meter_of.Goals as goal

pub overflow_cast-result : goal.overflow_cast-result
overflow_cast-result c =
    record { fits = wide c.requires.held.clocks }
  where
    wide : {x : ℕ} → x ≤ 1 → x < 2 ^ 64
    wide h = omega arith

pub returns : goal.returns
returns c = rw c.units_of.ensures
