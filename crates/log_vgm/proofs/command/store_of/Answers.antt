-- The register says which case holds. Assumes nothing.
use borrow.Author.Tests.{le-leb, lt-leb}
use Rattle.ground.specs.Pick.{pick}
use Rattle.log_vgm.specs.Commands.{store_of}
use Rattle.log_vgm.proofs.command.store_of.Goals as goal

pub returns-then-register-le47 : goal.returns-then-register-le47
unfolding store_of pick
returns-then-register-le47 c = rw (le-leb _ _ c.if-register-le47.true)

pub returns : goal.returns
unfolding store_of pick
returns c = rw (lt-leb _ _ c.if-register-le47.false)
