-- Each way out is the case that the two lengths pick. Assumes nothing.
use borrow.Author.Tests.{lt-ltb, le-ltb}
use Rattle.ground.specs.Pick.{pick}
use Rattle.log_vgm.specs.Imports.{fitted}
use Rattle.log_vgm.proofs.import.fit.Goals as goal

pub returns-then-bytes-gt65536 : goal.returns-then-bytes-gt65536
unfolding fitted pick
returns-then-bytes-gt65536 c = rw (lt-ltb _ _ c.if-bytes-gt65536.true)

pub returns-then-room-needed : goal.returns-then-room-needed
unfolding fitted pick
returns-then-room-needed c = rw (le-ltb _ _ c.if-bytes-gt65536.false, lt-ltb _ _ c.if-room-needed.true)

pub returns : goal.returns
unfolding fitted pick
returns c = rw (le-ltb _ _ c.if-bytes-gt65536.false, le-ltb _ _ c.if-room-needed.false)
