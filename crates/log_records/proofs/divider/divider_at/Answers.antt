-- By whether it runs. Assumes nothing.
use Rattle.std.proofs.Common.{rules}
use Rattle.log_records.specs.Divider.{divider_at}
use Rattle.log_records.proofs.divider.divider_at.Goals as goal

pub returns-in-Standing : goal.returns-in-Standing
unfolding divider_at
returns-in-Standing c = search rules

pub returns-in-Running : goal.returns-in-Running
unfolding divider_at
returns-in-Running c = search rules
