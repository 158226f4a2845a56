-- One store of the byte. Assumes nothing.
use Rattle.image_fields.specs.Bytes.{stored}
use borrow.Author.Rules.{rules}
use Rattle.image_fields.proofs.bytes.put_flag.Statement.{statement}
use Rattle.image_fields.proofs.bytes.put_flag.Tie as tie

returns : tie.Need-returns
unfolding stored
returns c = cc

pub put_flag_spec : {M : Type 1} → statement M
put_flag_spec =
    tie.close
    (tie.spec
    (λ c κs. search rules)
    (λ c. search rules)
    (λ c. search rules)
    returns)
