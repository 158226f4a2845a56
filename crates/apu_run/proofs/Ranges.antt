-- A working clock keeps the ranges, of numbers and of floats. Assumes nothing.
use Prim.Native.Nat.{ℕ, zero, suc}
use mathlib.Core.Path.{◌≡◌, refl}
use Rattle.ground.specs.Pick.{pick}
use Rattle.ground.specs.Iterate.{iterate}
use Rattle.ground.proofs.Cases.{both_ways}
use Rattle.clocks.specs.Counter.{every_at, tick_by}
use Rattle.clocks.specs.declared.sample_counter.Ticked.{Ticked}
use Rattle.clocks.proofs.Metering.{tick_kept_44100}
use Rattle.apu.specs.With.{with_clocks}
use Rattle.apu.specs.Held.{Held, FloatsHeld}
use Rattle.apu.specs.declared.Apu.{Apu}
use Rattle.apu.proofs.Ranges.{clocks_held}
use Rattle.apu.proofs.Floats.{kept}
use Rattle.apu_clock.specs.Clocking.{pushed}
use Rattle.apu_clock.proofs.Ranges.{channels_held, pushed_held}
use Rattle.apu_clock.proofs.Untouched.{channels}
use Rattle.apu_clock.proofs.Floats.{pushed_floats}
use Rattle.apu_run.specs.Working.{passing, working, Take, working_on, ran_of}

pub record Ready (a : Apu) : Type 0 where
  pub held : Held a
  pub floats : FloatsHeld a

working_ready : (a : Apu) → Ready a → Ready (working a)
unfolding working passing
working_ready a h = both_ways Ready _ (record { held = channels_held _ first.held; floats = kept (channels _) first.floats }) first
  where
    ticked : Ticked
    ticked = tick_by (every_at 44100) a.sample_counter

    again : (x : Apu) → x.clocks_counter ≡ a.clocks_counter → Ready x → Ready (with_clocks x ticked.counter a.clocks_counter)
    again x e g =
        record {
          held = clocks_held x g.held _ _ h.held.clocks;
          floats =
              record {
                pulse1 = g.floats.pulse1;
                pulse2 = g.floats.pulse2;
                wave = g.floats.wave;
                noise = g.floats.noise;
                counter = tick_kept_44100 a.sample_counter h.floats.counter;
              };
        }

    first : Ready (with_clocks (pick ticked.made (pushed a).apu a) ticked.counter a.clocks_counter)
    first =
        both_ways (λ (x : Apu). Ready (with_clocks x ticked.counter a.clocks_counter)) ticked.made
        (again (pushed a).apu (unfold pushed in refl) (record { held = pushed_held a h.held; floats = pushed_floats a h.held h.floats }))
        (again a refl h)

ran_on_ready : (n : ℕ) (t : Take) → Ready t.apu → Ready (iterate n working_on t).apu
unfolding iterate working_on
ran_on_ready zero t h = h
ran_on_ready (suc n) t h = ran_on_ready n (working_on t) (working_ready t.apu h)

pub ran_ready : (n : ℕ) (a : Apu) → Ready a → Ready (ran_of n a).apu
ran_ready n a h = ran_on_ready n _ h
