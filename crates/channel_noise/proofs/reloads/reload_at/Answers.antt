-- The list is the rule's, number by number, and a byte is below 256. Assumes nothing.
use Rattle.std.proofs.Common.{◌≡◌, ℕ, List, get_or, refl, ap, ◌∙◌, arith}
use Rattle.ground.specs.Pick.{pick}
use Rattle.channel_noise.specs.Noise.{divisor_of, reload_at}
use Rattle.channel_noise.specs.Reloads.{values_from, reload_list}
use Rattle.channel_noise.specs.declared.reloads.TheConstants.{RELOADS}
use Rattle.channel_noise.proofs.Table.{reload_there}
use Rattle.channel_noise.proofs.reloads.reload_at.Goals as goal

list_is : RELOADS ≡ reload_list
unfolding pick divisor_of reload_at values_from reload_list
list_is = refl

pub returns : goal.returns
returns c = ap (λ (l : List ℕ). get_or l c.args.ff22 0) list_is ∙ reload_there c.args.ff22 (omega arith)
