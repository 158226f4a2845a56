-- The length says whether the header is there, and the rest is its tests. Assumes nothing.
use borrow.Author.Tests.{lt-ltb, le-ltb}
use Rattle.std.proofs.Math.Bool.{or_assoc}
use Rattle.ground.specs.Pick.{pick}
use Rattle.log_vgm.specs.Header.{bad_header}
use Rattle.log_vgm.proofs.header.bad_header.Goals as goal

pub returns-then-n-lt-HEADER : goal.returns-then-n-lt-HEADER
unfolding bad_header pick
returns-then-n-lt-HEADER c = rw (lt-ltb _ _ c.if-n-lt-HEADER.true)

pub returns : goal.returns
unfolding bad_header pick
returns c =
    rw
    (← c.four-mark.ensures, ← c.four-version.ensures, ← c.start_of-start.ensures, ← c.four-clock.ensures, le-ltb _ _ c.if-n-lt-HEADER.false)
    (simp or_assoc)
