-- Each way out is the case of `zero_as_eight` that the test takes. Assumes nothing.
use Rattle.ground.proofs.Cases.{cases}
use Rattle.ground.specs.Num.{zero_as_eight}
use Rattle.ground.proofs.num.reload.Statement.{statement}
use Rattle.ground.proofs.num.reload.Tie as tie

pub reload_spec : {M : Type 1} → statement M
unfolding zero_as_eight
reload_spec = tie.close (tie.spec (λ c. search cases) (λ c. search cases))
