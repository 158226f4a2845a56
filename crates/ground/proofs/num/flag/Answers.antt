-- Each way out is the case of `pick` that the test takes. Assumes nothing.
use Rattle.ground.proofs.Cases.{cases}
use Rattle.ground.proofs.num.flag.Goals as goal

pub returns-then-set : goal.returns-then-set
returns-then-set g c = search cases

pub returns-else-set : goal.returns-else-set
returns-else-set g c = search cases
