-- Each way out is so many steps of its mode, by `some_narrow` and `some_wide`. Assumes nothing.
use borrow.Author.Rules.{rules}
use Rattle.channel_noise.proofs.Feds.{some_wide, some_narrow}
use Rattle.channel_noise.proofs.feedback.step_some.Goals as goal

pub returns-then-narrow : goal.returns-then-narrow
returns-then-narrow c =
    record {
      value = some_narrow _ _ _ _ c.if-narrow.true c.requires.times_bound c.requires.register_bound c.feedbacks_narrow-bits.ensures.value;
      upper_bound = search rules;
    }

pub returns-else-narrow : goal.returns-else-narrow
returns-else-narrow c =
    record {
      value = some_wide _ _ _ _ c.if-narrow.false c.requires.times_bound c.requires.register_bound c.feedbacks_wide-bits.ensures.value;
      upper_bound = search rules;
    }
