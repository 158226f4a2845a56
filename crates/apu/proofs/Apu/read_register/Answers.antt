-- Each way out is the case of `read_of` that the address picks. Assumes nothing.
use mathlib.Core.Path.{sym, ◌∙◌}
use borrow.Author.Tests.{leb-true}
use Rattle.ground.proofs.Cases.{and_left}
use Rattle.ground.specs.Pick.{pick}
use Rattle.apu.specs.Registers.{read_of}
use Rattle.apu.proofs.Apu.read_register.Goals as goal

pub overflow_sub-addr : goal.overflow_sub-addr
overflow_sub-addr c =
    let sound = sym c.is_sound.ensures ∙ c.if-is_sound.true in
    leb-true _ _ (and_left _ _ sound)

pub returns-then-is_sound : goal.returns-then-is_sound
unfolding pick read_of
returns-then-is_sound c =
    let sound = sym c.is_sound.ensures ∙ c.if-is_sound.true in
    (rw (c.byte_at.ensures, sound), rw sound, rw (c.byte_at.ensures, sound))

pub returns-else-is_sound : goal.returns-else-is_sound
unfolding pick read_of
returns-else-is_sound c =
    let sound = sym c.is_sound.ensures ∙ c.if-is_sound.false in
    (rw sound, rw sound, rw sound)
