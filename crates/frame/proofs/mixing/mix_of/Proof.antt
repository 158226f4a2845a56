-- The sums are the definition's as they stand. Assumes nothing.
use borrow.Author.Rules.{rules}
use Rattle.frame.specs.Mixing.{mixed}
use Rattle.frame.proofs.mixing.mix_of.Statement.{statement}
use Rattle.frame.proofs.mixing.mix_of.Tie as tie

pub mix_of_spec : {M : Type 1} → statement M
unfolding mixed
mix_of_spec =
    tie.close
    (tie.spec
    (λ c. search rules))
