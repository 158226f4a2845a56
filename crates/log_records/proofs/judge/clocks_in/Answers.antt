-- The kind, the speed, the phase and the count say whether it is one. Assumes nothing.
use mathlib.Core.Path.{sym}
use Rattle.log_records.proofs.Judged.{clocks_right, clocks_none}
use Rattle.log_records.proofs.judge.clocks_in.Goals as goal

pub returns-then-body-fair : goal.returns-then-body-fair
returns-then-body-fair c =
    let fair = c.fair in
    let word_at = c.word_at-count in
    let divider-in = c.divider_in-divider in
    let clock-length = c.clock_length-length in
    let args = c.args in
    let pre = c.requires in
    let if1 = c.if-body-fair in
    let said = rw (fair.ensures, word_at.ensures, divider-in.ensures, clock-length.ensures.value) at if1.true in
    rw (word_at.ensures, divider-in.ensures, clock-length.ensures.value)
    (sym (clocks_right args.end args.version args.body.now pre said))

pub returns : goal.returns
returns c =
    let if1 = c.if-body-fair in
    let fair = c.fair in
    let word_at = c.word_at-count in
    let divider-in = c.divider_in-divider in
    let clock-length = c.clock_length-length in
    let args = c.args in
    let pre = c.requires in
    let said = rw (fair.ensures, word_at.ensures, divider-in.ensures, clock-length.ensures.value) at if1.false in
    sym (clocks_none args.end args.version args.body.now pre said)
