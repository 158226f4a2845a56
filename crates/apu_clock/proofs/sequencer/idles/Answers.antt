-- Each arm is the case of `idles_of` that the next position picks. Assumes nothing.
use mathlib.Core.Logic.{inl, inr}
use native.Mathlib.Omega.{arith}
use borrow.Author.Tests.{ne_eqb}
use Rattle.ground.specs.Pick.{pick}
use Rattle.apu_clock.specs.Sequencer.{counts_of, idles_of}
use Rattle.clocks.proofs.Positions.{read_back, next_read}
use Rattle.apu_clock.proofs.sequencer.idles.Goals as goal

pub next_position-position-requires : goal.next_position-position-requires
next_position-position-requires c = rw (read_back c.args.unit.sequencer_position c.requires.position) c.requires.position

pub returns-in-2 : goal.returns-in-2
unfolding pick idles_of
returns-in-2 c =
    let read = next_read c.args.unit.sequencer_position _ c.requires.position c.next_position-position.ensures in
    elim c.in-2.is [
      | inl e ↦ rw (← read, e)
      | inr (inl e) ↦ rw (← read, e)
      | inr (inr e) ↦ rw (← read, e)
    ]

pub returns-in-1 : goal.returns-in-1
unfolding pick idles_of counts_of
returns-in-1 c =
    let read = next_read c.args.unit.sequencer_position _ c.requires.position c.next_position-position.ensures in
    elim c.in-1.is [
      | inl e ↦ rw (← read, e)
      | inr e ↦ rw (← read, e)
    ]

pub returns-in_default : goal.returns-in_default
unfolding pick idles_of
returns-in_default c =
    let n = c.next_position-position.result in
    rw (
      ← (next_read c.args.unit.sequencer_position n c.requires.position c.next_position-position.ensures),
      ne_eqb n 2 (grind arith),
      ne_eqb n 4 (grind arith),
      ne_eqb n 6 (grind arith),
      ne_eqb n 1 (grind arith),
      ne_eqb n 5 (grind arith),
    )
