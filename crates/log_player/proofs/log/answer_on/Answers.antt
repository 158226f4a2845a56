-- The meter is what the unit has stored, so the scan counts the frames and bytes that playing makes. Assumes nothing.
use Rattle.apu_clock.proofs.Demand3.{stored_held}
use Rattle.log_player.proofs.Answering.{answered}
use Rattle.log_player.proofs.log.answer_on.Goals as goal

pub scan_from-scanned-requires : goal.scan_from-scanned-requires
scan_from-scanned-requires c =
    let pre = c.requires in
    rw c.meter_of-meter.ensures (stored_held _ pre.held pre.floats_held)

pub returns : goal.returns
returns c =
    let a = c.args in
    let found = rw c.meter_of-meter.ensures at c.scan_from-scanned.ensures.value in
    let both = answered a.apu c.requires.held c.requires.floats_held a.log.now a.room found c.within.ensures.value in
    record { value = both.0; result_value = both.1 }
