-- A store is one record, a wait has its own function. Assumes nothing.
use native.Mathlib.Omega.{arith}
use Rattle.log_vgm.specs.Log.{written}
use Rattle.log_vgm.proofs.write.put_command.Goals as goal

pub put-requires : goal.put-requires
unfolding written
put-requires c = rw c.write_bytes.ensures (rw c.in-Store.is at c.requires.command_in_bounds)

pub returns-in-Store : goal.returns-in-Store
unfolding written
returns-in-Store c =
    let put = rw c.write_bytes.ensures at c.put.ensures in
    record { out_after = rw c.in-Store.is put; value = rw c.in-Store.is (omega arith) }
