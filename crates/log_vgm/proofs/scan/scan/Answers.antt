-- At every turn the bytes counted and the commands to come say what all of them say; the place moves on by one byte and more. Assumes nothing.
use native.Mathlib.Omega.{arith}
use borrow.Author.Rules.{rules}
use Rattle.log_vgm.specs.declared.refusal.ImportRefusal.TheVariants.{BadCommand}
use Rattle.std.specs.Prelude.{Option, Ok}
use mathlib.Core.Path.{◌≡◌, ap, ◌∙◌}
use Rattle.std.proofs.lemmas.Result.{err_from_is_err_and}
use Rattle.log_vgm.proofs.Walking.{mapped_ok, mapped_err, taken_fits, at_taken, at_end, at_bad}
use Rattle.log_vgm.proofs.Scanning.{turn, scan_ended, scan_stopped}
use Rattle.log_vgm.proofs.scan.scan.Goals as goal

pub returns-in_err-taken : goal.returns-in_err-taken
returns-in_err-taken c =
    let p = err_from_is_err_and c.from_residual.result c.from_residual.ensures.1 in
    let m = mapped_err _ _ _ c.map_err.ensures.cases c.in_err-taken.was in
    let place : c.in_err-taken.field-0.0 ≡ BadCommand c.loop-taken.walk.at = search rules in
    rw (p.1, p.2, place) (scan_stopped c.loop-taken.invariant (at_bad _ _ c.next_at.ensures m.1))

pub walked-walk-requires : goal.walked-walk-requires
walked-walk-requires c =
    let told = mapped_ok _ _ _ c.map_err.ensures.cases c.in_ok-taken.was ∙ ap (λ (o : Option _). Ok o) c.in-Some.is in
    let fits = taken_fits _ _ c.next_at.ensures told in
    omega (arith, fits.0)

pub loop-taken-smaller : goal.loop-taken-smaller
loop-taken-smaller c =
    let told = mapped_ok _ _ _ c.map_err.ensures.cases c.in_ok-taken.was ∙ ap (λ (o : Option _). Ok o) c.in-Some.is in
    let fits = taken_fits _ _ c.next_at.ensures told in
    rw c.walked-walk.ensures (omega (arith, fits.0))

pub loop-taken-preserved : goal.loop-taken-preserved
loop-taken-preserved c =
    let told = mapped_ok _ _ _ c.map_err.ensures.cases c.in_ok-taken.was ∙ ap (λ (o : Option _). Ok o) c.in-Some.is in
    turn c.loop-taken.invariant _ (at_taken _ _ c.next_at.ensures told) c.walked-walk.ensures (rw c.bytes_of.ensures.0 at c.min-bytes.ensures)

pub returns : goal.returns
returns c =
    let told = mapped_ok _ _ _ c.map_err.ensures.cases c.in_ok-taken.was ∙ ap (λ (o : Option _). Ok o) c.in_default.is in
    scan_ended c.loop-taken.invariant (at_end _ _ c.next_at.ensures told)
