-- Each arm is the case of `byte_at` that the offset picks. Assumes nothing.
use mathlib.Core.Path.{sym, ◌∙◌}
use borrow.Author.Tests.{ne_eqb, lt-ltb, le-ltb}
use native.Mathlib.Omega.{arith}
use Rattle.ground.specs.Pick.{pick}
use Rattle.apu.specs.Registers.{by_offset, byte_at}
use Rattle.channel_pulse.proofs.Ranges.{sweep_byte_le}
use Rattle.apu.proofs.Offsets.{at_pulse1, at_pulse2, at_wave, at_noise, past_groups}
use Rattle.apu.proofs.Apu.byte_at.Goals as goal

pub overflow_add-result : goal.overflow_add-result
overflow_add-result c = omega (arith, sweep_byte_le c.args.self.pulse1.channel.sweep, c.read_sweep_register.ensures)

pub returns-in-0 : goal.returns-in-0
unfolding pick by_offset byte_at
returns-in-0 c = rw (c.read_sweep_register.ensures, c.in-0.is)

pub returns-in-1-to-4 : goal.returns-in-1-to-4
unfolding byte_at
returns-in-1-to-4 c = c.read.ensures ∙ sym (at_pulse1 c.args.at _ (omega arith) (omega arith))

pub returns-in-5-to-9 : goal.returns-in-5-to-9
unfolding byte_at
returns-in-5-to-9 c = c.read-in-5-to-9.ensures ∙ sym (at_pulse2 c.args.at _ (omega arith) (omega arith))

pub returns-in-10-to-14 : goal.returns-in-10-to-14
unfolding byte_at
returns-in-10-to-14 c = c.read-in-10-to-14.ensures ∙ sym (at_wave c.args.at _ (omega arith) (omega arith))

pub returns-in-15-to-19 : goal.returns-in-15-to-19
unfolding byte_at
returns-in-15-to-19 c = c.read-in-15-to-19.ensures ∙ sym (at_noise c.args.at _ (omega arith) (omega arith))

pub returns-in-20 : goal.returns-in-20
unfolding pick by_offset byte_at
returns-in-20 c = rw c.in-20.is

pub returns-in-21 : goal.returns-in-21
unfolding pick by_offset byte_at
returns-in-21 c = rw c.in-21.is

pub returns-in-22 : goal.returns-in-22
unfolding pick by_offset byte_at
returns-in-22 c = rw (c.status.ensures, c.in-22.is)

pub returns-in-23-to-31 : goal.returns-in-23-to-31
unfolding pick byte_at
returns-in-23-to-31 c =
    let at = c.args.at in
    rw (
      past_groups at _ (omega arith),
      ne_eqb at 20 (omega arith),
      ne_eqb at 21 (omega arith),
      ne_eqb at 22 (omega arith),
      lt-ltb at 32 (omega arith),
    )

pub returns-in_default : goal.returns-in_default
unfolding pick byte_at
returns-in_default c =
    let at = c.args.at in
    rw (
      c.read_buffer.ensures,
      past_groups at _ (omega arith),
      ne_eqb at 20 (omega arith),
      ne_eqb at 21 (omega arith),
      ne_eqb at 22 (omega arith),
      le-ltb at 32 (omega arith),
    )
