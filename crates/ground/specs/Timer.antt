-- What so many clocks of a timer come to: at 0 it steps its channel and reloads to one less than its period, else it loses 1. Assumes nothing.
use Rattle.std.specs.Prelude.{ℕ, ◌+◌, ◌-◌, ◌/◌, ◌%◌, leb}
use Rattle.ground.specs.Pick.{pick}
use Rattle.ground.specs.declared.timer.CountedDown.{CountedDown}

-- n clocks: the first `timer` of them only take 1 off, the next one is a step, and so is every `period`-th after it
-- (clock by clock it is the same: `counted` of proofs/Timers.antt)
unfoldable pub counted_down : ℕ → ℕ → ℕ → CountedDown
counted_down timer period n =
    let past = n - timer - 1 in
    pick (leb n timer)
    (record { steps = 0; timer = timer - n })
    (record { steps = past / period + 1; timer = period - 1 - past % period })
