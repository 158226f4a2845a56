-- Stores in a row are one copy. Assumes nothing.
use Prim.Native.Nat.{◌+◌, ◌-◌}
use mathlib.Core.Path.{◌≡◌, sym}
use native.Mathlib.Omega.{arith}
use lib.ListN.{length}
use Rattle.std.proofs.lemmas.List.{drop-drop}
use Rattle.image_fields.proofs.Rows.{stored_is}
use Rattle.image_fields.proofs.bytes.put_bytes.Goals as goal

pub returns : goal.returns
returns c =
    let a = c.args in
    let long : a.at + length a.bytes.now - a.at ≡ length a.bytes.now = omega arith in
    rw (c.copy_from_slice.ensures.after, long, drop-drop) (sym (stored_is a.out.now a.at a.bytes.now c.requires))
