-- Each way out is the case of `updated` that the result picks; what is stored is in range. Assumes nothing.
use borrow.Author.Tests.{leb-true}
use Rattle.ground.proofs.Cases.{and_left}
use Rattle.ground.specs.Pick.{pick}
use Rattle.channel_pulse.specs.Sweep.{updated}
use Rattle.channel_pulse.proofs.Ranges.{calculated_held}
use Rattle.channel_pulse.proofs.sweep.Sweep.update.Goals as goal

pub store-requires : goal.store-requires
store-requires c =
    let calculation = c.sweep_calculation-first in
    record { held = rw calculation.ensures (calculated_held _ c.requires); frequency_bound = leb-true _ _ (and_left _ _ c.if-keep.true) }

pub returns-then-keep : goal.returns-then-keep
unfolding pick updated
returns-then-keep c =
    let calculation = c.sweep_calculation-first in
    rw (c.store.ensures, ← calculation.ensures, c.if-keep.true)

pub returns-else-keep : goal.returns-else-keep
unfolding pick updated
returns-else-keep c =
    let calculation = c.sweep_calculation-first in
    rw (← calculation.ensures, c.if-keep.false)
