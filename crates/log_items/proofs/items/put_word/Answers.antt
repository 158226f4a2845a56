-- Four stores in a row are a run of stores, of the word's own bytes. Assumes nothing.
use mathlib.Core.Path.{◌≡◌}
use native.Mathlib.Omega.{arith}
use lib.ListN.{length-set}
use Rattle.log_items.specs.Items.{swapped_of}
use Rattle.log_items.proofs.Words.{stored_word}
use Rattle.log_items.proofs.items.put_word.Goals as goal

pub bounds-out-at-2 : goal.bounds-out-at-2
bounds-out-at-2 c = simp length-set (omega arith)

pub bounds-out-at-3 : goal.bounds-out-at-3
bounds-out-at-3 c = simp length-set (omega arith)

pub bounds-out-at-4 : goal.bounds-out-at-4
bounds-out-at-4 c = simp length-set (omega arith)

pub returns : goal.returns
returns c =
    let args = c.args in
    let turned : c.swap_bytes-turned.result ≡ swapped_of args.word = omega (arith, c.swap_bytes-turned.ensures) in
    stored_word args.out.now args.at c.swap_bytes-turned.result args.word (omega arith) turned
