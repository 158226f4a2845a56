-- The one call gives the definition's counter. Assumes nothing.
use borrow.Author.Rules.{rules}
use Rattle.channel_pulse.specs.Sweep.{reloaded}
use Rattle.channel_pulse.proofs.sweep.Sweep.reload_sweep_counter.Statement.{statement}
use Rattle.channel_pulse.proofs.sweep.Sweep.reload_sweep_counter.Tie as tie

pub reload_sweep_counter_spec : {M : Type 1} → statement M
unfolding reloaded
reload_sweep_counter_spec =
    tie.close
    (tie.spec
    (λ c κs. search rules)
    (λ c. rw c.reload.ensures))
