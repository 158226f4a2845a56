-- Each way out is the case of `write_of` that the address picks. Assumes nothing.
use borrow.Author.Tests.{leb-true}
use Rattle.ground.proofs.Cases.{and_left}
use Rattle.ground.specs.Pick.{pick}
use Rattle.apu.specs.Registers.{write_of}
use mathlib.Core.Path.{refl, sym, ◌∙◌}
use native.Mathlib.Omega.{arith}
use Rattle.apu.proofs.Given.{write_given}
use Rattle.apu.specs.declared.registers.Written.{Written}
use Rattle.std.specs.Prelude.{Ok, Err}
use Rattle.apu.proofs.Apu.write_register.Goals as goal

pub overflow_sub-addr : goal.overflow_sub-addr
overflow_sub-addr c =
    let sound = sym c.is_sound.ensures ∙ c.if-is_sound.true in
    leb-true _ _ (and_left _ _ sound)

pub returns-then-is_sound : goal.returns-then-is_sound
unfolding pick write_of
returns-then-is_sound c =
    let a = c.args in
    let sound = sym c.is_sound.ensures ∙ c.if-is_sound.true in
    let w : Written = record { answer = Ok tt; apu = c.write_at-next.result } in
    record {
      value = (rw (c.write_at-next.ensures, sound), rw sound, refl);
      held = write_given a.self a.addr a.value w (omega arith) c.requires (rw (c.write_at-next.ensures, sound));
    }

pub returns-else-is_sound : goal.returns-else-is_sound
unfolding pick write_of
returns-else-is_sound c =
    let a = c.args in
    let sound = sym c.is_sound.ensures ∙ c.if-is_sound.false in
    let w : Written = record { answer = Err (record {}); apu = a.self } in
    record { value = (rw sound, rw sound, refl); held = write_given a.self a.addr a.value w (omega arith) c.requires (rw sound) }
