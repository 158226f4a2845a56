-- The bytes from the place on say which case holds. Assumes nothing.
use mathlib.Core.Path.{◌≡◌, ap, ◌∙◌}
use native.Mathlib.Omega.{arith}
use borrow.Author.Tests.{ltb-true, ltb-false, eqb-false}
use lib.ListN.{get_or}
use Rattle.log_vgm.specs.Commands.{takes}
use Rattle.log_vgm.proofs.Reading.{past, none_left, a_store, a_long, a_short}
use Rattle.log_vgm.proofs.command.next_at.Goals as goal
use Rattle.log_vgm.proofs.command.next_at.Goals.{then-rest-lt3, else-rest-lt3+in_default-1}

pub returns-in_default : goal.returns-in_default
returns-in_default c = past _ _ c.in_default.ensures.lookup.0

pub returns-in-empty : goal.returns-in-empty
returns-in-empty c = let r = c.in-Some.ensures.lookup.0 in none_left _ _ r.2 r.3 c.in-empty.len_below

pub returns-in-179 : goal.returns-in-179
returns-in-179 c =
    let r = c.in-Some.ensures.lookup.0 in
    let kind : get_or c.in-Some.rest.now 0 0 ≡ 0xB3 = cc in
    c.store_of.ensures ∙ a_store _ _ r.2 r.3 c.in-179.len_at_least kind

pub returns-in-97 : goal.returns-in-97
returns-in-97 c =
    let r = c.in-Some.ensures.lookup.0 in
    let kind : get_or c.in-Some.rest.now 0 0 ≡ 0x61 = cc in
    ap takes c.long_of.ensures ∙ a_long _ _ r.2 r.3 c.in-97.len_at_least kind

pub returns-in-len1-up : goal.returns-in-len1-up
returns-in-len1-up c =
    let r = c.in-Some.ensures.lookup.0 in
    c.short_of.ensures
    ∙ elim c.in-len1-up-1.branch [
      | then-rest-lt3 w ↦ a_short _ _ r.2 r.3 (omega (arith, ltb-false)) (λ h. omega (arith, ltb-true)) (λ h. omega (arith, ltb-true))
      | else-rest-lt3+in_default-1 w ↦ a_short _ _ r.2 r.3 (omega (arith, ltb-false)) (λ h. omega (arith, eqb-false)) (λ h. omega (arith, eqb-false))
    ]
