-- By the address, range by range. Assumes nothing.
use borrow.Author.Tests.{lt-ltb, le-ltb}
use native.Mathlib.Omega.{arith}
use Rattle.ground.specs.Pick.{pick}
use Rattle.log_player.specs.Bodies.{group_at}
use Rattle.log_player.proofs.body.group_at.Goals as goal
use Rattle.log_player.proofs.body.group_at.Goals.{in-65297-to-65300, in-65301-to-65305, in-65306-to-65310, in-65311-to-65315}

pub returns-in_default : goal.returns-in_default
unfolding group_at pick
returns-in_default c = rw (lt-ltb c.args.addr 0xFF11 (omega arith))

pub returns-in_default-2 : goal.returns-in_default-2
unfolding group_at pick
returns-in_default-2 c =
    let addr = c.args.addr in
    rw (
      le-ltb addr 0xFF11 (omega arith),
      le-ltb addr 0xFF15 (omega arith),
      le-ltb addr 0xFF1A (omega arith),
      le-ltb addr 0xFF1F (omega arith),
      le-ltb addr 0xFF24 (omega arith),
    )

pub returns : goal.returns
unfolding group_at pick
returns c =
    let addr = c.args.addr in
    elim c.if-addr-lt65301.branch [
      | in-65297-to-65300 w ↦ rw (w.group-is, le-ltb addr 0xFF11 (grind arith), lt-ltb addr 0xFF15 (grind arith))
      | in-65301-to-65305 w ↦
          rw (w.group-is, le-ltb addr 0xFF11 (grind arith), le-ltb addr 0xFF15 (grind arith), lt-ltb addr 0xFF1A (grind arith))
      | in-65306-to-65310 w ↦
          rw (
            w.group-is,
            le-ltb addr 0xFF11 (grind arith),
            le-ltb addr 0xFF15 (grind arith),
            le-ltb addr 0xFF1A (grind arith),
            lt-ltb addr 0xFF1F (grind arith),
          )
      | in-65311-to-65315 w ↦
          rw (
            w.group-is,
            le-ltb addr 0xFF11 (grind arith),
            le-ltb addr 0xFF15 (grind arith),
            le-ltb addr 0xFF1A (grind arith),
            le-ltb addr 0xFF1F (grind arith),
            lt-ltb addr 0xFF24 (grind arith),
          )
    ]
