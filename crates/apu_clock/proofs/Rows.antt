-- Over any row of uses a unit stays in its ranges, numbers and floats: so every promise of the next call applies. Both constructors' units are in them.
-- Assumes nothing.
use mathlib.Core.Bool.{Bool, true, false}
use mathlib.Core.List.{List, [], ◌∷◌}
use Prim.Native.Nat.{◌≤◌}
use Rattle.ground.specs.Pick.{pick}
use Rattle.clocks.specs.Rows.{steps}
use Rattle.apu.specs.Held.{Held, FloatsHeld}
use Rattle.apu.proofs.Ranges.{new_held, skipped_held, write_held}
use Rattle.apu.proofs.Floats.{new_floats, skipped_floats, write_floats}
use Rattle.apu_clock.specs.Uses.{Use, read, write, pcm12, pcm34, clock, value_of, Bytes, end, ◌then◌, State, step}
use Rattle.apu_clock.specs.Demand3.{start_of}
use Rattle.apu_clock.proofs.Ranges.{clock_held}
use Rattle.apu_clock.proofs.Floats.{clock_floats}

-- both ranges
abbrev pub InRanges : State → Type 0
InRanges s = Held s.apu × FloatsHeld s.apu

one_use : (u : Use) (s : State) → value_of u ≤ 255 → InRanges s → InRanges (step u s)
unfolding step
one_use (read addr) s v h = h
one_use (write addr value) s v h = (write_held s.apu addr value v h.0, write_floats s.apu addr value h.1)
one_use pcm12 s v h = h
one_use pcm34 s v h = h
one_use (clock d v place b) s k h = (clock_held s.apu d v place b h.0, clock_floats s.apu d v place b h.0 h.1)

-- from any unit in its ranges
pub uses_held_from : (us : List Use) (s : State) → Bytes us → InRanges s → InRanges (steps step us s)
unfolding steps
uses_held_from [] s end h = h
uses_held_from (u ∷ us) s (v then vs) h = uses_held_from us (step u s) vs (one_use u s v h)

start_ranges : (skip dmg : Bool) → InRanges (start_of skip dmg)
unfolding pick
start_ranges true dmg = (skipped_held dmg, skipped_floats dmg)
start_ranges false dmg = (new_held dmg, new_floats dmg)

pub uses_held : (skip dmg : Bool) (us : List Use) → Bytes us → let a = (steps step us (start_of skip dmg)).apu in Held a × FloatsHeld a
uses_held skip dmg us b = uses_held_from us (start_of skip dmg) b (start_ranges skip dmg)
