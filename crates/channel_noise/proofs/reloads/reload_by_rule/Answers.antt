-- Divisor and shift are the definition's, by what the two calls ensure. Assumes nothing.
use Rattle.channel_noise.specs.Noise.{reload_at}
use Rattle.channel_noise.proofs.reloads.reload_by_rule.Goals as goal

pub returns : goal.returns
unfolding reload_at
returns c = rw (c.shift_left.ensures, c.base_divisor.ensures)
