-- The one difference is the definition's. Assumes nothing.
use Rattle.channel_parts.proofs.length.Length.write_sound_length.Goals as goal

pub returns : goal.returns
returns c = rw c.saturating_sub-length.ensures
