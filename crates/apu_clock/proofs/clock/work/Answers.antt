-- Each way out is one of the ways of a working clock. Assumes nothing.
use mathlib.Core.Path.{sym, ◌∙◌}
use Rattle.frame.proofs.Room.{room_of}
use Rattle.frame.proofs.Lending.{same_five}
use Rattle.apu_clock.proofs.Calling.{frame_way, refused_way, plain_way}
use Rattle.apu_clock.proofs.clock.work.Goals as goal

pub put_frame-requires : goal.put_frame-requires
put_frame-requires c = room_of _ _ (sym c.have_room.ensures ∙ c.if-have_room.true)

pub returns-then-have_room : goal.returns-then-have_room
returns-then-have_room c =
    let a = c.args in
    let value = frame_way a.unit a.half a.double a.divider a.place _ c.tick-ticked.result c.tick-ticked.ensures _ _ c.if-ticked.true
    (sym c.have_room.ensures ∙ c.if-have_room.true)
    c.frame-framed.ensures
    c.put_frame.ensures.value in
    record { value = value; same = c.put_frame.ensures.same }

pub returns-then-ticked : goal.returns-then-ticked
returns-then-ticked c =
    let a = c.args in
    let value = refused_way a.unit a.half a.double a.divider a.place _ c.tick-ticked.result c.tick-ticked.ensures c.if-ticked.true
    (sym c.have_room.ensures ∙ c.if-have_room.false) in
    record { value = value; same = same_five _ }

pub returns : goal.returns
returns c =
    let a = c.args in
    let value = plain_way a.unit a.half a.double a.divider a.place _ c.tick-ticked.result c.tick-ticked.ensures _ c.if-ticked.false c.pass-apu.ensures in
    record { value = value; same = same_five _ }
