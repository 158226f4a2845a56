-- A count up to 16,384 has two bytes. Assumes nothing.
use Prim.Native.Nat.{◌/◌, ◌%◌}
use mathlib.Core.Path.{◌≡◌}
use native.Mathlib.Omega.{arith}
use lib.ListN.{get_or}
use Rattle.ground.specs.Pick.{pick}
use Rattle.log_vgm.proofs.write.clock_bytes.Goals as goal

pub returns : goal.returns
unfolding pick
returns c =
    let high : get_or c.to_be_bytes.result 0 0 ≡ c.args.count / 256 = rw c.to_be_bytes.ensures (omega arith) in
    let low : get_or c.to_be_bytes.result 1 0 ≡ c.args.count % 256 = rw c.to_be_bytes.ensures (omega arith) in
    rw (high, low)
