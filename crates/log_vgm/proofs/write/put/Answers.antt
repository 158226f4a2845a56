-- The bytes and those past them are a run of stores at the front. Assumes nothing.
use Rattle.log_vgm.proofs.Putting.{front_put}
use Rattle.log_vgm.proofs.write.put.Goals as goal

pub returns : goal.returns
returns c = rw c.copy_from_slice.ensures.after (front_put _ _ c.requires)
