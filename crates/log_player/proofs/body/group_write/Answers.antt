-- The definition asks what the code asks, in its order. Assumes nothing.
use mathlib.Core.Path.{sym, ◌∙◌}
use borrow.Author.Tests.{eq-eqb, ne_eqb}
use Rattle.ground.proofs.Cases.{pick_true, pick_false}
use Rattle.log_player.specs.Bodies.{group_write_in}
use Rattle.log_player.proofs.body.group_write.Goals as goal

pub returns-then-body-ne4 : goal.returns-then-body-ne4
unfolding group_write_in
returns-then-body-ne4 c =
    let if1 = c.if-body-ne4 in
    sym (pick_false _ _ _ (ne_eqb _ 4 if1.true))

pub returns-then-power-body : goal.returns-then-power-body
unfolding group_write_in
returns-then-power-body c =
    let group_at = c.group_at in
    let word_at = c.word_at in
    let if2 = c.if-power-body in
    let if1 = c.if-body-ne4 in
    rw word_at.ensures at group_at.ensures ∙ sym (pick_true _ _ _ (eq-eqb _ 4 if1.false) ∙ pick_true _ _ _ if2.true)

pub returns : goal.returns
unfolding group_write_in
returns c =
    let if2 = c.if-power-body in
    let if1 = c.if-body-ne4 in
    sym (pick_true _ _ _ (eq-eqb _ 4 if1.false) ∙ pick_false _ _ _ if2.false)
