-- The length, the speed, the phase and the count say which case holds. Assumes nothing.
use mathlib.Core.Path.{sym, ◌∙◌}
use borrow.Author.Tests.{eq-eqb, ne_eqb}
use Rattle.ground.specs.Pick.{pick}
use Rattle.log_records.specs.Judge.{clock_of}
use Rattle.log_records.proofs.judge.judge_clock.Goals as goal

pub returns-then-fair : goal.returns-then-fair
unfolding pick clock_of
returns-then-fair c =
    let if2 = c.if-fair in
    let fair = c.fair in
    let word_at = c.word_at-count in
    let divider-in = c.divider_in-divider in
    let if1 = c.if-body-length in
    let clock-length = c.clock_length-length in
    let said = sym fair.ensures ∙ if2.true in
    rw (← clock-length.ensures.value, ← divider-in.ensures, ← word_at.ensures, eq-eqb _ _ if1.false, said)

pub returns-else-fair : goal.returns-else-fair
unfolding pick clock_of
returns-else-fair c =
    let if2 = c.if-fair in
    let fair = c.fair in
    let word_at = c.word_at-count in
    let divider-in = c.divider_in-divider in
    let if1 = c.if-body-length in
    let clock-length = c.clock_length-length in
    let said = sym fair.ensures ∙ if2.false in
    rw (← clock-length.ensures.value, ← divider-in.ensures, ← word_at.ensures, eq-eqb _ _ if1.false, said)

pub returns-then-body-length : goal.returns-then-body-length
unfolding pick clock_of
returns-then-body-length c =
    let if1 = c.if-body-length in
    let clock-length = c.clock_length-length in
    rw (← clock-length.ensures.value, ne_eqb _ _ if1.true)
