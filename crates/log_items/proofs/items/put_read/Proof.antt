-- Two stores in a row are a run of stores. Assumes nothing.
use borrow.Author.Rules.{rules}
use native.Mathlib.Omega.{arith}
use native.Mathlib.Numerals.{add-one}
use lib.ListN.{length-set}
use Rattle.log_items.proofs.items.put_read.Statement.{statement}
use Rattle.log_items.proofs.items.put_read.Tie as tie

pub put_read_spec : {M : Type 1} → statement M
put_read_spec =
    tie.close
    (tie.spec
    (λ c. search rules)
    (λ c. search rules)
    (λ c. simp length-set (omega arith))
    (λ c. search rules)
    (λ c. simp (add-one)))
