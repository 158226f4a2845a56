-- The copy is the definition's four stores. Assumes nothing.
use native.Mathlib.Omega.{arith}
use Rattle.channel_wave.proofs.Copies.{copied}
use Rattle.channel_wave.proofs.wave_channel.copy_four.Goals as goal

pub returns : goal.returns
returns c =
    let a = c.args in
    rw c.copy_from_slice.ensures.after (copied a.buffer a.start (omega arith))
