-- The bytes of the part are those at the place. Assumes nothing.
use Prim.Native.Nat.{◌+◌, ◌-◌}
use mathlib.Core.Path.{◌≡◌}
use native.Mathlib.Omega.{arith}
use Rattle.image_fields.proofs.Rows.{row_there}
use Rattle.image_fields.proofs.bytes.bytes.Goals as goal

pub returns : goal.returns
returns g c =
    let a = c.args in
    let long : a.at + g.row.N - a.at ≡ g.row.N = omega arith in
    rw (c.copy_from_slice.ensures.after, long) (row_there a.s.now a.at g.row.N c.requires)
