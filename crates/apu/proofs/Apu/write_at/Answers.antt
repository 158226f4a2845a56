-- Each arm is the case of `written_at` that the offset picks. Assumes nothing.
use borrow.Author.Tests.{ne_eqb, lt-ltb, le-ltb}
use native.Mathlib.Omega.{arith}
use Rattle.ground.specs.Pick.{pick}
use Rattle.apu.specs.Registers.{written_at}
use Rattle.apu.proofs.Apu.write_at.Goals as goal

pub returns-in-0-to-21 : goal.returns-in-0-to-21
unfolding pick written_at
returns-in-0-to-21 c = rw (c.write_gated.ensures, lt-ltb c.args.at 22 (omega arith))

pub returns-in-22 : goal.returns-in-22
unfolding pick written_at
returns-in-22 c = rw (c.write_power.ensures, c.in-22.is)

pub returns-in-23-to-31 : goal.returns-in-23-to-31
unfolding pick written_at
returns-in-23-to-31 c =
    let at = c.args.at in
    rw (le-ltb at 22 (omega arith), ne_eqb at 22 (omega arith), lt-ltb at 32 (omega arith))

pub returns-in_default : goal.returns-in_default
unfolding pick written_at
returns-in_default c =
    let at = c.args.at in
    rw (c.write_ram.ensures, le-ltb at 22 (omega arith), ne_eqb at 22 (omega arith), le-ltb at 32 (omega arith))
