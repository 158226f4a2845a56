-- A store is one record of six bytes, a wait has those of its calls. Assumes nothing.
use native.Mathlib.Omega.{arith}
use mathlib.Core.Path.{sym}
use Rattle.log_vgm.specs.Log.{written}
use Rattle.log_vgm.proofs.Lengths.{wait_long}
use Rattle.log_vgm.proofs.scan.bytes_of.Goals as goal

pub returns-in-Store : goal.returns-in-Store
unfolding written
returns-in-Store c = (rw c.in-Store.is, omega arith)

pub returns-in-Wait : goal.returns-in-Wait
returns-in-Wait c =
    let calls-in = c.calls_in in
    let is = c.wait_bytes.ensures in
    (rw (is.0, calls-in.ensures.0, c.in-Wait.is) (sym (wait_long _ _)), omega (arith, is.1))
