-- The five tests are the definition's, by what the calls ensure. Assumes nothing.
use Rattle.frame.specs.Buffers.{room_in_all}
use Rattle.frame.proofs.buffers.Lent.have_room.Goals as goal

pub returns : goal.returns
unfolding room_in_all
returns c =
    let has-room4 = c.has_room-fourth in
    let has-room3 = c.has_room-third in
    let has-room2 = c.has_room-second in
    let has_room = c.has_room-first in
    rw (has_room.ensures, has-room2.ensures, has-room3.ensures, has-room4.ensures, c.has_room.ensures)
