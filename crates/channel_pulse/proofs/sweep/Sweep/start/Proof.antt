-- The record is the definition's, by what its call ensures. Assumes nothing.
use borrow.Author.Rules.{rules}
use Rattle.channel_pulse.specs.Sweep.{sweep_started}
use Rattle.channel_pulse.proofs.sweep.Sweep.start.Statement.{statement}
use Rattle.channel_pulse.proofs.sweep.Sweep.start.Tie as tie

pub start_spec : {M : Type 1} → statement M
unfolding sweep_started
start_spec =
    tie.close
    (tie.spec
    (λ c κs. search rules)
    (λ c. rw c.before.before.reload.ensures))
