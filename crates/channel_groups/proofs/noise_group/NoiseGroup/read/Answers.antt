-- Each arm is the case of `byte_of` that the offset picks. Assumes nothing.
use borrow.Author.Tests.{ne_eqb}
use Rattle.ground.specs.Pick.{pick}
use Rattle.channel_groups.specs.NoiseGroups.{byte_of}
use Rattle.channel_groups.proofs.noise_group.NoiseGroup.read.Goals as goal

pub returns-in-2 : goal.returns-in-2
unfolding pick byte_of
returns-in-2 c = rw (c.read_envelope_register.ensures, c.in-2.is)

pub returns-in-3 : goal.returns-in-3
unfolding pick byte_of
returns-in-3 c = rw (c.read_noise_register.ensures, c.in-3.is)

pub returns-in-4 : goal.returns-in-4
unfolding pick byte_of
returns-in-4 c = rw (c.control_byte.ensures, c.in-4.is)

pub returns-in_default : goal.returns-in_default
unfolding pick byte_of
returns-in_default c = let rest = c.in_default.in_default-own.rest in rw (ne_eqb _ _ rest.0.0.1, ne_eqb _ _ rest.0.1, ne_eqb _ _ rest.1)
