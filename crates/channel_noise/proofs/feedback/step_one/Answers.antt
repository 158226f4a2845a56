-- Each way out is a step of its mode, by `one_step`. Assumes nothing.
use mathlib.Core.Path.{sym}
use mathlib.Core.Bool.{true, false}
use borrow.Author.Rules.{rules}
use Rattle.channel_noise.proofs.Steps.{feedback_sum, one_step}
use Rattle.channel_noise.proofs.feedback.step_one.Goals as goal

pub returns-then-narrow : goal.returns-then-narrow
returns-then-narrow c = record { value = rw (c.if-narrow.true, ← feedback_sum _) (sym (one_step true _ c.requires)); upper_bound = search rules }

pub returns-else-narrow : goal.returns-else-narrow
returns-else-narrow c = record { value = rw (c.if-narrow.false, ← feedback_sum _) (sym (one_step false _ c.requires)); upper_bound = search rules }
