-- How a unit's calls come under demand 3: it is enough that each call, seen through its clocks, is one of the four kinds. Assumes nothing.
use mathlib.Core.Path.{◌≡◌, refl, ap, ◌∙◌}
use mathlib.Core.List.{List, [], ◌∷◌, ◌++◌}
use Prim.Native.Nat.{ℕ}
use lib.Ieee.{Float}
use Rattle.clocks.specs.Calls.{Call, Clocks, call, run, fresh, K, Conserved}
use Rattle.clocks.specs.Rows.{steps, kinds}
use Rattle.clocks.specs.Counter.{every_at}
use Rattle.clocks.specs.Metered.{Held, clocks_of, ConservedFrom}
use Rattle.clocks.specs.declared.meter.Meter.{Meter}
use Rattle.clocks.proofs.Conserved.{conserved, conserved_from_44100}

-- calls C on states S; `see` reads a state's half-clocks, sample counter and frames so far
module _ {S C : Type 0} (see : S → Clocks) (kind : C → S → Call) (step : C → S → S) where
  pub seen : (n : Float) → ((c : C) (s : S) → see (step c s) ≡ call n (kind c s) (see s)) → (cs : List C) (s : S)
      → see (steps step cs s) ≡ run n (kinds kind step cs s) (see s)
  unfolding steps kinds run
  seen n law [] s = refl
  seen n law (c ∷ cs) s = seen n law cs (step c s) ∙ ap (run n (kinds kind step cs (step c s))) (law c s)

  pub seen_conserved : ((c : C) (s : S) → see (step c s) ≡ call (every_at 44100) (kind c s) (see s)) → (cs : List C) (s : S) → see s ≡ fresh
      → Conserved 48 K (kinds kind step cs s) (see (steps step cs s))
  seen_conserved law cs s new = rw (seen (every_at 44100) law cs s, new) (conserved (kinds kind step cs s))

  -- and from any kept clocks
  pub seen_conserved_from : ((c : C) (s : S) → see (step c s) ≡ call (every_at 44100) (kind c s) (see s)) → (cs : List C) (s : S) (m : Meter) (f : ℕ)
      → Held K m → see s ≡ clocks_of 48 m f → ConservedFrom 48 K m f (kinds kind step cs s) (see (steps step cs s))
  seen_conserved_from law cs s m f h e = rw (seen (every_at 44100) law cs s, e) (conserved_from_44100 m h f (kinds kind step cs s))

-- one row of calls after another
pub run_append : (n : Float) (cs ds : List Call) (m : Clocks) → run n (cs ++ ds) m ≡ run n ds (run n cs m)
unfolding run
run_append n [] ds m = refl
run_append n (c ∷ cs) ds m = run_append n cs ds (call n c m)
