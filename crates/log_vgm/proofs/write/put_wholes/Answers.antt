-- At every turn the records put so far are one run of stores. Assumes nothing.
use Prim.Native.Nat.{◌*◌}
use native.Mathlib.Omega.{arith}
use mathlib.Core.Path.{refl}
use Rattle.log_vgm.specs.Log.{clock_record, wholes, record_bytes, written}
use Rattle.log_vgm.proofs.Putting.{part_put, one_more}
use Rattle.log_vgm.proofs.write.put_wholes.Goals as goal

pub loop-i-init : goal.loop-i-init
unfolding wholes written
loop-i-init c = refl

pub loop-i-preserved : goal.loop-i-preserved
loop-i-preserved c =
    let put = rw c.clock_bytes-whole.ensures at c.put.ensures in
    one_more _ _ c.args.calls c.loop-i.i c.loop-i.invariant
    (part_put c.loop-i.out (c.loop-i.i * 8) (record_bytes (clock_record c.args.calls 16384)) (omega arith) put)
