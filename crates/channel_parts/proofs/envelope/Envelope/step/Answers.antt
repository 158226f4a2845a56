-- The record is the definition's, by what its two calls ensure. Assumes nothing.
use Rattle.channel_parts.specs.Envelope.{stepped}
use Rattle.channel_parts.proofs.envelope.Envelope.step.Goals as goal

pub returns : goal.returns
unfolding stepped
returns c = rw (c.goes_on.ensures, c.step_volume-volume.ensures)
