-- Each arm is the case of `advanced` that the next position picks, and what is left of it by 8 is stored. Assumes nothing.
use mathlib.Core.Path.{◌≡◌}
use mathlib.Core.Logic.{inl, inr}
use native.Mathlib.Omega.{arith}
use Prim.Native.Nat.{◌%◌}
use lib.IntN.{pos}
use mir.Syntax.{w8}
use mir.Val.{to_z, of_z}
use borrow.Author.Tests.{ne_eqb}
use Rattle.ground.specs.Pick.{pick}
use Rattle.apu_clock.specs.Sequencer.{advanced}
use Rattle.apu_clock.proofs.Ranges.{next_small}
use Rattle.clocks.proofs.Positions.{read_back, next_read}
use Rattle.apu_clock.proofs.sequencer.advance.Goals as goal
use Rattle.apu_clock.proofs.sequencer.advance.Goals.{in-1, in-3, in-8, in_default}

pub next_position-position-requires : goal.next_position-position-requires
next_position-position-requires c = rw (read_back c.args.unit.sequencer_position c.requires.position) c.requires.position

pub position_of-requires : goal.position_of-requires
position_of-requires c = omega arith

pub returns : goal.returns
unfolding pick advanced
returns c =
    let n = c.next_position-position.result in
    let read = next_read c.args.unit.sequencer_position n c.requires.position c.next_position-position.ensures in
    let kept : to_z w8 (of_z w8 c.position_of.result) ≡ pos (n % 8) = rw c.position_of.ensures (read_back (pos (n % 8)) (omega arith)) in
    elim c.match-position.branch [
      | in-1 w ↦
          elim w.in-1.is [
            | inl e ↦ rw (w.next-is, w.clock_lengths-next.ensures, kept, ← read, e)
            | inr e ↦ rw (w.next-is, w.clock_lengths-next.ensures, kept, ← read, e)
          ]
      | in-3 w ↦
          elim w.in-3.is [
            | inl e ↦ rw (w.next-is, w.clock_lengths-next-in-3.ensures, w.clock_sweep.ensures, kept, ← read, e)
            | inr e ↦ rw (w.next-is, w.clock_lengths-next-in-3.ensures, w.clock_sweep.ensures, kept, ← read, e)
          ]
      | in-8 w ↦ rw (w.next-is, w.clock_envelopes-next.ensures, kept, ← read, w.in-8.is)
      | in_default w ↦
          let small = next_small c.args.unit.sequencer_position n c.requires.position c.next_position-position.ensures (grind arith) in
          let same : n % 8 ≡ n = omega arith in
          rw (
            w.next-is,
            kept,
            same,
            ← read,
            ne_eqb n 8 (grind arith),
            ne_eqb n 1 (grind arith),
            ne_eqb n 5 (grind arith),
            ne_eqb n 3 (grind arith),
            ne_eqb n 7 (grind arith),
          )
    ]
