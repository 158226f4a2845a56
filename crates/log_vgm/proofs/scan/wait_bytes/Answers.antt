-- Rounded up, it is one more where there is a rest. Assumes nothing.
use Rattle.std.proofs.Common.{rules}
use Rattle.ground.specs.Pick.{pick}
use Rattle.log_vgm.specs.Log.{wait_bytes}
use Rattle.log_vgm.proofs.scan.wait_bytes.Goals as goal

pub returns : goal.returns
unfolding wait_bytes pick
returns c = search rules
