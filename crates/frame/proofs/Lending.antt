-- Buffers that nothing is done to are the same five. Assumes nothing.
use mathlib.Core.Path.{refl}
use Rattle.frame.specs.Lent.{SameBuffers}
use Rattle.frame.specs.declared.buffers.Lent.{Lent}

pub same_five : (b : Lent) → SameBuffers b b
same_five b = record { pulse1 = refl; pulse2 = refl; wave = refl; noise = refl; all = refl }
