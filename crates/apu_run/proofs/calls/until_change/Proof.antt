-- By the speed. Assumes nothing.
use borrow.Author.Rules.{rules}
use Rattle.ground.proofs.Cases.{cases}
use Rattle.apu_run.specs.Owed.{change_of}
use Rattle.apu_run.proofs.calls.until_change.Statement.{statement}
use Rattle.apu_run.proofs.calls.until_change.Tie as tie

pub until_change_spec : {M : Type 1} → statement M
unfolding change_of
until_change_spec =
    tie.close
    (tie.spec
    (λ c. search rules)
    (λ c. search rules)
    (λ c. search cases)
    (λ c. search cases))
