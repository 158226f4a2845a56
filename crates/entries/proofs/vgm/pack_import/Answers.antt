-- The refusal is 11 at most, and the number in 48 bits. Assumes nothing.
use native.Mathlib.Omega.{arith}
use Rattle.log_vgm.proofs.Answering.{refusal_le}
use Rattle.entries.proofs.vgm.pack_import.Goals as goal

pub packed-requires : goal.packed-requires
packed-requires c =
    let few = refusal_le c.args.answer in
    record { refusal_bound = rw c.refusal.ensures (omega (arith, few)); number_bound = rw c.min.ensures (omega arith) }

pub returns : goal.returns
returns c = rw (c.packed.ensures, c.refusal.ensures, c.min.ensures, c.returned.ensures)
