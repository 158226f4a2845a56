-- The two bits pick the constructor and the model. Assumes nothing.
use borrow.Author.Tests.{eq-eqb, ne_eqb}
use Rattle.ground.specs.Pick.{pick}
use Rattle.log_player.specs.Playing.{unit_of_start}
use Rattle.log_player.proofs.play.start.Goals as goal

pub returns-then-byte-eq1 : goal.returns-then-byte-eq1
unfolding pick unit_of_start
returns-then-byte-eq1 c = record { value = rw (c.new_skip_boot_rom.ensures.value, eq-eqb _ _ c.if-byte-eq1.true); held = c.new_skip_boot_rom.ensures.held }

pub returns-else-byte-eq1 : goal.returns-else-byte-eq1
unfolding pick unit_of_start
returns-else-byte-eq1 c = record { value = rw (c.new.ensures.value, ne_eqb _ _ c.if-byte-eq1.false); held = c.new.ensures.held }
