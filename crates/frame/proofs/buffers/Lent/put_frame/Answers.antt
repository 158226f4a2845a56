-- Each buffer is what its own call left, and is the one that was lent. Assumes nothing.
use mathlib.Core.Path.{refl}
use Rattle.frame.specs.Buffers.{framed}
use Rattle.frame.proofs.buffers.Lent.put_frame.Goals as goal

pub returns : goal.returns
unfolding framed
returns c =
    record {
      value = rw (c.put_sides-5.ensures, c.put_sides-4.ensures, c.put_sides-3.ensures, c.put_sides-2.ensures, c.put_sides.ensures);
      same = record { pulse1 = refl; pulse2 = refl; wave = refl; noise = refl; all = refl };
    }
