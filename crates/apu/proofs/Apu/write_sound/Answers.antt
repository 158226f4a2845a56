-- Each arm is the case of `sound_written` that the offset picks. Assumes nothing.
use borrow.Author.Tests.{ne_eqb}
use native.Mathlib.Omega.{arith}
use Rattle.ground.specs.Pick.{pick}
use Rattle.apu.specs.Registers.{by_offset, sound_written}
use Rattle.apu.proofs.Offsets.{at_pulse1, at_pulse2, at_wave, at_noise, past_groups}
use Rattle.apu.proofs.Apu.write_sound.Goals as goal

pub returns-in-0 : goal.returns-in-0
unfolding pick by_offset sound_written
returns-in-0 c = rw (c.write_sweep-next.ensures, c.in-0.is)

pub returns-in-1-to-4 : goal.returns-in-1-to-4
unfolding sound_written
returns-in-1-to-4 c =
    rw (c.write-next.ensures, c.next_even-even.ensures, at_pulse1 c.args.at _ (omega arith) (omega arith))

pub returns-in-5-to-9 : goal.returns-in-5-to-9
unfolding sound_written
returns-in-5-to-9 c =
    rw (c.write-next-in-5-to-9.ensures, c.next_even-even.ensures, at_pulse2 c.args.at _ (omega arith) (omega arith))

pub returns-in-10-to-14 : goal.returns-in-10-to-14
unfolding sound_written
returns-in-10-to-14 c =
    rw (c.write-next-in-10-to-14.ensures, c.next_even-even.ensures, at_wave c.args.at _ (omega arith) (omega arith))

pub returns-in-15-to-19 : goal.returns-in-15-to-19
unfolding sound_written
returns-in-15-to-19 c =
    rw (c.write-next-in-15-to-19.ensures, c.next_even-even.ensures, at_noise c.args.at _ (omega arith) (omega arith))

pub returns-in-20 : goal.returns-in-20
unfolding pick by_offset sound_written
returns-in-20 c = rw c.in-20.is

pub returns-in_default : goal.returns-in_default
unfolding pick sound_written
returns-in_default c = rw (past_groups c.args.at _ (omega arith), ne_eqb c.args.at 20 (omega arith))
