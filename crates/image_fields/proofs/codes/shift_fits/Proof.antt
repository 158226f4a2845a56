-- The rows are the definition's tests. Assumes nothing.
use borrow.Author.Rules.{rules}
use Rattle.image_fields.specs.Codes.{shift_fits}
use Rattle.image_fields.proofs.codes.shift_fits.Statement.{statement}
use Rattle.image_fields.proofs.codes.shift_fits.Tie as tie

pub shift_fits_spec : {M : Type 1} → statement M
unfolding shift_fits
shift_fits_spec =
    tie.close
    (tie.spec
    (λ c. search rules)
    (λ c. search rules)
    (λ c. search rules)
    (λ c. search rules)
    (λ c. search rules)
    (λ c. search rules)
    (λ c. search rules)
    (λ c. search rules)
    (λ c. search rules))
