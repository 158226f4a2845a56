-- Its two bytes say which case holds. Assumes nothing.
use Rattle.ground.specs.Pick.{pick}
use Rattle.log_records.proofs.judge.address_of.Goals as goal
use mathlib.Core.Path.{sym, ◌∙◌}

pub returns-then-is_sound : goal.returns-then-is_sound
unfolding pick
returns-then-is_sound c = rw (← c.from_be_bytes-addr.ensures, sym c.is_sound.ensures ∙ c.if-is_sound.true)

pub returns-else-is_sound : goal.returns-else-is_sound
unfolding pick
returns-else-is_sound c = rw (← c.from_be_bytes-addr.ensures, sym c.is_sound.ensures ∙ c.if-is_sound.false)
