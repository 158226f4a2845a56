-- The three tests are those of `waits_of`. Assumes nothing.
use borrow.Author.Rules.{rules}
use Rattle.log_player.proofs.reckon.waits.Statement.{statement}
use Rattle.log_player.proofs.reckon.waits.Tie as tie

pub waits_spec : {M : Type 1} → statement M
waits_spec = tie.close (tie.spec (λ c. search rules) (λ c κs. search rules) (λ c. rw c.idles.ensures))
