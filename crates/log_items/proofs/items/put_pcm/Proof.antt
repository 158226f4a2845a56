-- Three stores in a row are a run of stores. Assumes nothing.
use borrow.Author.Rules.{rules}
use native.Mathlib.Omega.{arith}
use native.Mathlib.Numerals.{add-one, add-two}
use lib.ListN.{length-set}
use Rattle.log_items.proofs.items.put_pcm.Statement.{statement}
use Rattle.log_items.proofs.items.put_pcm.Tie as tie

pub put_pcm_spec : {M : Type 1} → statement M
put_pcm_spec =
    tie.close
    (tie.spec
    (λ c. search rules)
    (λ c. search rules)
    (λ c. simp length-set (omega arith))
    (λ c. search rules)
    (λ c. simp length-set (omega arith))
    (λ c. search rules)
    (λ c. simp (add-one, add-two)))
