-- The check of the whole list: each of the 256 numbers is the rule's, computed entry by entry. Assumes nothing.
use mathlib.Core.Path.{refl}
use Rattle.ground.specs.Pick.{pick}
use Rattle.channel_noise.specs.Noise.{divisor_of, reload_at}
use Rattle.channel_noise.specs.Reloads.{values_from, reload_list}
use Rattle.channel_noise.proofs.reloads.reloads.Statement.{statement}
use Rattle.channel_noise.proofs.reloads.reloads.Tie as tie

pub reloads_spec : {M : Type 1} → statement M
unfolding pick divisor_of reload_at values_from reload_list
reloads_spec = tie.close (tie.spec (λ c. refl))
