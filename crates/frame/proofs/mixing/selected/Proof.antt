-- The shift by at most 7 is the definition's division. Assumes nothing.
use borrow.Author.Rules.{rules}
use Rattle.frame.specs.Mixing.{selected_of}
use Rattle.frame.proofs.mixing.selected.Statement.{statement}
use Rattle.frame.proofs.mixing.selected.Tie as tie

pub selected_spec : {M : Type 1} → statement M
unfolding selected_of
selected_spec =
    tie.close
    (tie.spec
    (λ c. search rules)
    (λ c. search rules))
