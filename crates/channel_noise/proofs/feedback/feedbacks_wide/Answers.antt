-- Two readings, by `fed_wide`. Assumes nothing.
use borrow.Author.Rules.{rules}
use Rattle.channel_noise.proofs.Feds.{fed_wide}
use Rattle.channel_noise.proofs.feedback.feedbacks_wide.Goals as goal

pub returns : goal.returns
returns c = record { value = fed_wide _ _ _ c.changes.ensures c.changes-2.ensures; upper_bound = search rules }
