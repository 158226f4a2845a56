-- One store. Assumes nothing.
use Rattle.image_fields.specs.Bytes.{stored}
use borrow.Author.Rules.{rules}
use Rattle.image_fields.proofs.bytes.put_one.Statement.{statement}
use Rattle.image_fields.proofs.bytes.put_one.Tie as tie

returns : tie.Need-returns
unfolding stored
returns c = search rules

pub put_one_spec : {M : Type 1} → statement M
put_one_spec =
    tie.close
    (tie.spec
    (λ c. search rules)
    (λ c. search rules)
    returns)
