-- At every turn the records still to come leave the unit as all of them leave it from the start; the place moves on by two bytes and more. Assumes nothing.
use native.Mathlib.Omega.{arith}
use Prim.Native.Nat.{ℕ, ◌+◌}
use mathlib.Core.Path.{◌≡◌, sym, ap, ◌∙◌}
use Rattle.std.specs.Prelude.{Option, None, Ok}
use native.Mathlib.Nat.{add-sub_cancel_left}
use Rattle.log_records.proofs.Framing.{body_fits, list_end, list_short, list_body}
use Rattle.player.proofs.Showing.{show_on, shown_all}
use Rattle.player.proofs.show_list.Goals as goal

pub returns-in_default : goal.returns-in_default
returns-in_default g c =
    let none : c.in_default.field-0 ≡ None = cc in
    let ended = sym c.cut_at.ensures ∙ c.in_default.is ∙ ap (λ (o : Option ℕ). Ok o) none in
    shown_all c.loop-len.invariant (list_end _ _ _ ended)

pub returns-in_default-2 : goal.returns-in_default-2
returns-in_default-2 g c = shown_all c.loop-len.invariant (list_short _ _ _ (sym c.cut_at.ensures ∙ c.in_default.is))

pub overflow_add-from : goal.overflow_add-from
overflow_add-from g c =
    let cut = sym (rw c.in-Ok-Some.field-0-is at c.in-Ok-Some.ensures) in
    let h = body_fits _ c.loop-len.at _ cut in
    omega arith

pub overflow_add-to : goal.overflow_add-to
overflow_add-to g c =
    let cut = sym (rw c.in-Ok-Some.field-0-is at c.in-Ok-Some.ensures) in
    let h = body_fits _ c.loop-len.at _ cut in
    omega arith

pub slice_bounds-show_record-end : goal.slice_bounds-show_record-end
slice_bounds-show_record-end g c =
    let cut = sym (rw c.in-Ok-Some.field-0-is at c.in-Ok-Some.ensures) in
    let h = body_fits _ c.loop-len.at _ cut in
    omega arith

pub loop-len-smaller : goal.loop-len-smaller
loop-len-smaller g c =
    let h = body_fits _ c.loop-len.at _ (sym (rw c.in-Ok-Some.field-0-is at c.in-Ok-Some.ensures)) in
    omega arith

pub loop-len-preserved : goal.loop-len-preserved
loop-len-preserved g c =
    let n = c.in-Ok-Some.len in
    let k = add-sub_cancel_left (c.loop-len.at + 2) n in
    let b = list_body _ _ c.loop-len.at n (sym (rw c.in-Ok-Some.field-0-is at c.in-Ok-Some.ensures)) in
    let e = rw k at c.show_record-next.ensures in
    show_on c.loop-len.invariant _ _ _ b e.apu_value e.still_held
