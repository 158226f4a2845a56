-- The bytes left at the place and the length there say whether a body of a clock record's length is at hand. Assumes nothing.
use borrow.Author.Tests.{le-leb, lt-leb, eq-eqb, ne_eqb}
use native.Mathlib.Omega.{arith}
use Prim.Native.Nat.{ℕ, ◌+◌, ◌-◌, ◌≤◌, ◌<◌}
use mathlib.Core.Path.{◌≡◌, sym, ◌∙◌}
use lib.ListN.{length}
use Rattle.ground.specs.Pick.{pick}
use Rattle.log_records.specs.Judge.{clock_length}
use Rattle.log_records.specs.Records.{clocks_at}
use Rattle.log_records.proofs.judge.clocks_of.Goals as goal

part-is : (at n : ℕ) → at + 2 + n - (at + 2) ≡ n
part-is at n = omega arith

pub returns-then-n-length : goal.returns-then-n-length
unfolding pick clocks_at
returns-then-n-length c =
    let if1 = c.if-n-length in
    let clock-length = c.clock_length-length in
    let a = c.args in
    let far : length a.log.now < a.at + 2 + clock_length a.version = omega (arith, if1.true, clock-length.ensures.value) in
    rw (lt-leb _ _ far)

pub returns-then-n-length-2 : goal.returns-then-n-length-2
unfolding pick clocks_at
returns-then-n-length-2 c =
    let if2 = c.if-n-length-2 in
    let clock-length = c.clock_length-length in
    let a = c.args in
    let far : length a.log.now < a.at + 2 + clock_length a.version = omega (arith, if2.true, clock-length.ensures.value) in
    rw (lt-leb _ _ far)

pub returns-then-word_at-length : goal.returns-then-word_at-length
unfolding pick clocks_at
returns-then-word_at-length c =
    let clocks-in = c.clocks_in in
    let if3 = c.if-word_at-length in
    let word_at = c.word_at in
    let if2 = c.if-n-length-2 in
    let if1 = c.if-n-length in
    let clock-length = c.clock_length-length in
    let a = c.args in
    let near : a.at + 2 + clock_length a.version ≤ length a.log.now = omega (arith, if1.false, if2.false, clock-length.ensures.value) in
    rw (le-leb _ _ near, eq-eqb _ _ (sym word_at.ensures ∙ if3.true ∙ clock-length.ensures.value))
    (rw (clock-length.ensures.value, part-is a.at (clock_length a.version)) at clocks-in.ensures)

pub returns : goal.returns
unfolding pick clocks_at
returns c =
    let if3 = c.if-word_at-length in
    let word_at = c.word_at in
    let if2 = c.if-n-length-2 in
    let if1 = c.if-n-length in
    let clock-length = c.clock_length-length in
    let a = c.args in
    let near : a.at + 2 + clock_length a.version ≤ length a.log.now = omega (arith, if1.false, if2.false, clock-length.ensures.value) in
    rw (le-leb _ _ near, ← word_at.ensures, ← clock-length.ensures.value, ne_eqb _ _ if3.false)
