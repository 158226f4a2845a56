-- At every turn owing what was reckoned so far, at its place, is owing what was owed at the start; with each turn less of the log is to come. Assumes nothing.
use Rattle.log_player.specs.Coming.{ahead}
use Rattle.log_player.proofs.Reckoning.{Reckoning}
use Rattle.log_player.proofs.reckon.reckon.Given as goal

abbrev pub invariant-loop-clocks : goal.invariant-loop-clocks
invariant-loop-clocks l = Reckoning l.version l.log l.initial.r.at l.initial.r.call l.initial.r.owed l.power l.initial.r.half l.initial.r.stored l.r

abbrev pub decreases-loop-clocks : goal.decreases-loop-clocks
decreases-loop-clocks l = ahead l.log l.r.at l.r.call
