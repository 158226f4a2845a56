-- After `counter` turns meter and frames are those of as many times 16,384 half-clocks. Assumes nothing.
use Prim.Native.Nat.{◌*◌}
use Rattle.clocks.proofs.Totals.{Going}
use Rattle.clocks.proofs.meter.frames_from.Given as goal

abbrev pub invariant-loop : goal.invariant-loop
invariant-loop l = Going l.fn.meter (l.counter * 16384) l.at l.frames
