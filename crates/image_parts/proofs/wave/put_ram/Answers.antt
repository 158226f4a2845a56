-- A row of sixteen is its sixteen bytes. Assumes nothing.
use Prim.Native.Nat.{ℕ, ◌≤◌}
use mathlib.Core.Path.{◌≡◌, sym, ap, ◌∙◌}
use mathlib.Core.List.{List}
use native.Mathlib.Omega.{arith}
use lib.ListN.{length}
use Rattle.std.proofs.Common.{rules}
use Rattle.std.proofs.lemmas.List.{take_all}
use Rattle.image_fields.proofs.Rows.{row_there}
use Rattle.image_fields.specs.Bytes.{stored}
use Rattle.image_parts.specs.Wave.{ram_bytes}
use Rattle.image_parts.proofs.wave.put_ram.Goals as goal

sixteen : (ram : List ℕ) → length ram ≡ 16 → ram ≡ ram_bytes ram
unfolding ram_bytes
sixteen ram e = sym (take_all 16 ram (omega arith)) ∙ row_there ram 0 16 (omega arith)

pub returns : goal.returns
returns c =
    let h : length c.args.ram ≡ 16 = search rules in
    rw (← sixteen c.args.ram h) c.put_bytes.ensures
