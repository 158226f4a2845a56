-- At every turn what is owed and what is to come of the log make what all of its records make from the start; with each turn less of it is to come, or
use Prim.Native.Nat.{◌+◌, ◌*◌}
use Rattle.log_player.specs.Coming.{ahead}
use Rattle.log_player.proofs.Walking.{Walking}
use Rattle.log_player.proofs.play.play_list.Given as goal

abbrev pub invariant-loop-apu : goal.invariant-loop-apu
invariant-loop-apu l = Walking l.version l.log (record { apu = l.initial.apu; at = l.initial.place }) l.initial.out l.out l.apu l.place l.r

abbrev pub decreases-loop-apu : goal.decreases-loop-apu
decreases-loop-apu l = ahead l.log l.r.at l.r.call * 65536 + l.r.more
