-- The constructor's own promise. Assumes nothing.
use borrow.Author.Rules.{rules}
use Rattle.image.proofs.keep.wrong.Statement.{statement}
use Rattle.image.proofs.keep.wrong.Tie as tie

returns : tie.Need-returns
returns c = rw c.new.ensures.0

pub wrong_spec : {M : Type 1} → statement M
wrong_spec =
    tie.close
    (tie.spec
    (λ c κs. search rules)
    returns)
