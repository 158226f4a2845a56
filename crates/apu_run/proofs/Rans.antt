-- What a run hands back is what its point has, and put back into the unit it is the unit after the run. Assumes nothing.
use mathlib.Core.Path.{◌≡◌, refl, sym, ap}
use mathlib.Core.List.{[]}
use Prim.Native.Nat.{ℕ, ◌+◌}
use lib.Ieee.{Float}
use lib.ListN.{length}
use Rattle.ground.specs.Iterate.{iterate}
use Rattle.clocks.specs.Distance.{units_in}
use Rattle.clocks.proofs.Distances.{units, kept_is}
use Rattle.apu.specs.Held.{FloatsHeld}
use Rattle.apu.specs.declared.Apu.{Apu}
use Rattle.apu_run.specs.Working.{ran_of}
use Rattle.apu_run.specs.Phases.{settings_of, phases_of, converters_of, phases_clocked, put_back}
use Rattle.apu_run.specs.Parts.{parts_of, behind}
use Rattle.apu_run.specs.declared.frames.Parts.{Parts}
use Rattle.apu_run.proofs.Parts.{Point, point_clock, take_at, ran_at}

-- a point's parts
abbrev pub point_parts : Point → ℕ → Parts
point_parts p start = record { phases = p.1.0; converters = p.1.1; counter = p.0; at = start + length p.1.2 }

-- a unit with its own parts put back
own : (u : Apu) (c : Float) → c ≡ u.sample_counter → put_back u (phases_of u) (converters_of u) c ≡ u
own u c e = ap (put_back u (phases_of u) (converters_of u)) e

-- so many clocks of a unit, or of one that is behind, by points
abbrev pub point_from : Apu → ℕ → ℕ → ℕ → Point
point_from u count ahead waiting =
    iterate count (point_clock (settings_of u)) (units ahead, (iterate waiting (phases_clocked (settings_of u)) (phases_of u), converters_of u, []))

pub behind_ran : (u : Apu) (count ahead waiting : ℕ) → ran_of count (behind u ahead waiting) ≡ take_at u (point_from u count ahead waiting)
behind_ran u count ahead waiting = ran_at u count (units ahead, (iterate waiting (phases_clocked (settings_of u)) (phases_of u), converters_of u, []))

pub behind_none : (u : Apu) → FloatsHeld u → behind u (units_in u.sample_counter) 0 ≡ u
unfolding iterate
behind_none u f = own u _ (sym (kept_is u.sample_counter f.counter))

-- what is handed back of those
pub parts_at : (u : Apu) (p : Point) (start : ℕ) → parts_of (take_at u p) start ≡ point_parts p start
parts_at u p start = refl

-- put back, it is the unit
pub put_ran : (n : ℕ) (u : Apu) → let t = ran_of n u in put_back u (phases_of t.apu) (converters_of t.apu) t.apu.sample_counter ≡ t.apu
put_ran n u =
    let p : Point = iterate n (point_clock (settings_of u)) (u.sample_counter, (phases_of u, converters_of u, [])) in
    let e : ran_of n u ≡ take_at u p = ran_at u n (u.sample_counter, (phases_of u, converters_of u, [])) in
    rw e refl
