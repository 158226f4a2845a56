-- All of them, or up to the next change of the bit. Assumes nothing.
use Prim.Native.Nat.{◌+◌, ◌*◌}
use mathlib.Core.Path.{refl}
use native.Mathlib.Omega.{arith}
use Rattle.std.proofs.Math.Nat.{min-le_left, min-le_right, le-min}
use Rattle.apu_run.proofs.Dividers.{stands, runs, change_some}
use Rattle.apu_run.proofs.calls.same_bit.Goals as goal

pub returns-in-Standing : goal.returns-in-Standing
returns-in-Standing c =
    let a = c.args in
    let same = stands a.double c.in-Standing.byte c.in-Standing.phase a.i a.count in
    rw c.in-Standing.is (record { value = refl; lower_bound = (c.requires.le_count, omega arith); one_bit = same })

pub returns-in-Running : goal.returns-in-Running
returns-in-Running c =
    let a = c.args in
    let change = change_some a.double (c.in-Running.byte * 64 + c.in-Running.phase + a.i) in
    rw (c.in-Running.is, c.min.ensures, c.until_change.ensures)
    (record {
      value = refl;
      lower_bound = (le-min change c.requires.le_count, min-le_right _ _);
      one_bit = runs a.double c.in-Running.byte c.in-Running.phase a.i _ (min-le_left _ _);
    })
