-- Four readings, by `fed_narrow`. Assumes nothing.
use borrow.Author.Rules.{rules}
use Rattle.channel_noise.proofs.Feds.{fed_narrow}
use Rattle.channel_noise.proofs.feedback.feedbacks_narrow.Goals as goal

pub returns : goal.returns
returns c = record { value = fed_narrow _ _ _ _ _ c.changes.ensures c.changes-2.ensures c.changes-3.ensures c.changes-4.ensures; upper_bound = search rules }
