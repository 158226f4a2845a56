-- The unit of the start byte is in its ranges, and so is what it has stored. Assumes nothing.
use Rattle.apu_clock.proofs.Demand3.{stored_held}
use Rattle.player.proofs.show_log.Goals as goal

pub scan_from-requires : goal.scan_from-requires
scan_from-requires g c =
    let ranges = c.start-apu.ensures.held in
    rw c.meter_of.ensures (stored_held _ ranges.0 ranges.1)
