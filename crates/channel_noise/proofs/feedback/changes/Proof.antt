-- It is `changes_of` as it stands. Assumes nothing.
use mathlib.Core.Path.{refl}
use Rattle.channel_noise.specs.Fed.{changes_of}
use Rattle.channel_noise.proofs.feedback.changes.Statement.{statement}
use Rattle.channel_noise.proofs.feedback.changes.Tie as tie

returns : tie.Need-returns
unfolding changes_of
returns c = refl

pub changes_spec : {M : Type 1} → statement M
changes_spec = tie.close (tie.spec returns)
