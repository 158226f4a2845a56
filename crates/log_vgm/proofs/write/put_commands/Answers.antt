-- At every turn the bytes put so far, with those of the commands to come, are all of the log's; the place moves on by one byte and more. Assumes nothing.
use native.Mathlib.Omega.{arith}
use mathlib.Core.Path.{◌≡◌, ap, ◌∙◌}
use Prim.Native.Nat.{ℕ, ◌+◌}
use Rattle.std.specs.Prelude.{Option, None, Ok}
use Rattle.log_vgm.proofs.Walking.{taken_fits, at_taken, at_end, at_bad}
use Rattle.log_vgm.proofs.Putting.{part_long, part_put, next_fits, put_more, ended_put, stopped_put}
use Rattle.log_vgm.proofs.write.put_commands.Goals as goal

pub put_command-at-requires : goal.put_command-at-requires
put_command-at-requires c =
    let told = c.in-Ok-Some.is ∙ ap (λ (o : Option _). Ok o) c.in-Ok-Some.field-0-is in
    let fits = next_fits c.loop-taken.invariant _ (at_taken _ _ c.next_at.ensures told) in
    record { low = (taken_fits _ _ c.next_at.ensures told).1; command_in_bounds = rw (part_long c.loop-taken.out c.loop-taken.at) (omega (arith, fits)) }

pub overflow_add-at : goal.overflow_add-at
overflow_add-at c =
    let told = c.in-Ok-Some.is ∙ ap (λ (o : Option _). Ok o) c.in-Ok-Some.field-0-is in
    let fits = next_fits c.loop-taken.invariant _ (at_taken _ _ c.next_at.ensures told) in
    omega (arith, fits, c.put_command-at.ensures.value)

pub walked-walk-requires : goal.walked-walk-requires
walked-walk-requires c =
    let fits = taken_fits _ _ c.next_at.ensures (c.in-Ok-Some.is ∙ ap (λ (o : Option _). Ok o) c.in-Ok-Some.field-0-is) in
    omega (arith, fits.0)

pub loop-taken-smaller : goal.loop-taken-smaller
loop-taken-smaller c =
    let fits = taken_fits _ _ c.next_at.ensures (c.in-Ok-Some.is ∙ ap (λ (o : Option _). Ok o) c.in-Ok-Some.field-0-is) in
    rw c.walked-walk.ensures (omega (arith, fits.0))

pub loop-taken-preserved : goal.loop-taken-preserved
loop-taken-preserved c =
    let step = at_taken _ _ c.next_at.ensures (c.in-Ok-Some.is ∙ ap (λ (o : Option _). Ok o) c.in-Ok-Some.field-0-is) in
    let fits = next_fits c.loop-taken.invariant _ step in
    let put = c.put_command-at.ensures in
    put_more c.loop-taken.invariant _ step c.walked-walk.ensures (part_put _ _ _ fits put.out_after) (ap (λ (n : ℕ). c.loop-taken.at + n) put.value)

pub returns-in_default : goal.returns-in_default
returns-in_default c =
    let none : c.in_default.field-0 ≡ None = cc in
    ended_put c.loop-taken.invariant (at_end _ _ c.next_at.ensures (c.in_default.is ∙ ap (λ (o : Option _). Ok o) none))

pub returns-in_default-2 : goal.returns-in_default-2
returns-in_default-2 c = stopped_put c.loop-taken.invariant (at_bad _ _ c.next_at.ensures c.in_default.is)
