-- The part from one place up to the other holds so many zeros, and the rest stays. Assumes nothing.
use native.Mathlib.Omega.{arith}
use Rattle.log_items.proofs.Stores.{zeros_filled}
use Rattle.log_items.proofs.items.put_zeros.Goals as goal

pub returns : goal.returns
returns c = zeros_filled _ _ _ (c.fill.ensures.after (λ y e. e)) (omega (arith, c.requires.0, c.requires.1))
