-- A log is written only where there is room for it. Assumes nothing.
use Prim.Native.Nat.{ℕ, ◌≤◌}
use mathlib.Core.Path.{◌≡◌, sym, ◌∙◌}
use mathlib.Core.List.{List}
use native.Mathlib.Omega.{arith}
use borrow.Author.Tests.{ltb-false}
use Rattle.ground.proofs.Cases.{pick_holds}
use Rattle.log_items.proofs.Stores.{prefix_counts}
use Rattle.std.specs.Prelude.{Ok}
use Rattle.log_vgm.specs.Commands.{Track, ended, stopped, after}
use Rattle.log_vgm.specs.Imports.{Imported, or_stopped, fitted, imported_of}
use Rattle.importer.proofs.import.Goals as goal

-- where it is an import, its bytes are no more than the room
abbrev Fits : ℕ → Imported → Type 0
Fits room a = (written : ℕ) → a ≡ Ok written → written ≤ room

fitted_fits : (room needed : ℕ) → Fits room (fitted room needed)
unfolding fitted
fitted_fits room needed =
    pick_holds (Fits room) _ _ _ (λ _ w e. cc)
    (λ _. pick_holds (Fits room) _ _ _ (λ _ w e. cc) (λ enough w e. let n : needed ≡ w = cc in rw n at (ltb-false room needed enough)))

stopped_fits : (room : ℕ) (t : Track) (a : Imported) → Fits room a → Fits room (or_stopped t a)
unfolding or_stopped
stopped_fits room ended a f = f
stopped_fits room (stopped place) a f = λ w e. cc
stopped_fits room (after command rest) a f = stopped_fits room rest a f

import_fits : (vgm : List ℕ) (room : ℕ) → Fits room (imported_of vgm room)
unfolding imported_of
import_fits vgm room = pick_holds (Fits room) _ _ _ (λ _ w e. cc) (λ _. stopped_fits room _ _ (fitted_fits room _))

pub slice_bounds-log-end : goal.slice_bounds-log-end
slice_bounds-log-end g c =
    let fits = import_fits _ _ _ (sym c.import_log.ensures.value ∙ c.in-Ok.is) in
    omega (arith, fits, c.import_log.auto.log)

pub slice_bounds-write_all-end : goal.slice_bounds-write_all-end
slice_bounds-write_all-end g c =
    let fits = import_fits _ _ _ (sym c.import_log.ensures.value ∙ c.in-Ok.is) in
    prefix_counts _ _ (omega (arith, fits, c.import_log.auto.log))
