-- A run of working clocks neither reads nor changes the sequencer's position, and leaves the lengths' switches as they are: so a step of the sequencer that
-- idles after a run may be taken before it. Assumes nothing.
use Prim.Native.Nat.{ℕ, ◌+◌}
use mathlib.Core.Path.{◌≡◌, refl, sym, ap, ◌∙◌}
use mathlib.Core.Bool.{Bool, true, false}
use lib.Ieee.{Float}
use lib.IntN.{ℤ, pos}
use Rattle.ground.specs.Pick.{pick}
use Rattle.ground.specs.Iterate.{iterate}
use Rattle.ground.proofs.Cases.{both_ways}
use Rattle.ground.proofs.Timers.{pick_ap, iterate_part, iterate_add, iterate_holds}
use Rattle.clocks.specs.Counter.{every_at, tick_by}
use Rattle.clocks.specs.Position.{next_of}
use Rattle.clocks.specs.declared.sample_counter.Ticked.{Ticked}
use Rattle.channel_groups.specs.Groups as any
use Rattle.apu.specs.With.{with_clocks, with_position}
use Rattle.apu.specs.declared.Apu.{Apu}
use Rattle.apu.proofs.Ranges.{position_held}
use Rattle.apu_clock.specs.Sequencer.{channels_clocked, advanced, counts_of, idles_of}
use Rattle.apu_clock.specs.Clocking.{pushed}
use Rattle.apu_clock.proofs.Idling.{idles}
use Rattle.apu_run.specs.Working.{passing, working, working_bytes, Take, working_on, ran_of}
use Rattle.apu_run.proofs.Ranges.{Ready}
use Rattle.apu_run.proofs.Turns.{none}

-- ---- the position
abbrev placed_take : ℤ → Take → Take
placed_take z t = record { apu = with_position t.apu z; bytes = t.bytes }

passing_placed : (a : Apu) (c : Float) (h : ℕ) (z : ℤ) → passing (with_clocks (with_position a z) c h) ≡ with_position (passing (with_clocks a c h)) z
unfolding passing channels_clocked
passing_placed a c h z = pick_ap (λ (x : Apu). with_position x z) a.power (channels_clocked (with_clocks a c h)) (with_clocks a c h)

working_placed : (z : ℤ) (t : Take) → working_on (placed_take z t) ≡ placed_take z (working_on t)
unfolding working_on working working_bytes pushed pick
working_placed z t = ap (λ (x : Apu). record { apu = x; bytes = (working_on t).bytes }) (go (tick_by (every_at 44100) t.apu.sample_counter).made)
  where
    a : Apu
    a = t.apu

    c : Float
    c = (tick_by (every_at 44100) a.sample_counter).counter

    h : ℕ
    h = a.clocks_counter

    go : (m : Bool)
        → passing (with_clocks (pick m (pushed (with_position a z)).apu (with_position a z)) c h)
        ≡ with_position (passing (with_clocks (pick m (pushed a).apu a) c h)) z
    go true = passing_placed (pushed a).apu c h z
    go false = passing_placed a c h z

ran_placed : (n : ℕ) (z : ℤ) (t : Take) → iterate n working_on (placed_take z t) ≡ placed_take z (iterate n working_on t)
ran_placed n z t = iterate_part (placed_take z) working_on working_on (working_placed z) n t

-- so a unit's own position stays
ran_position : (n : ℕ) (a : Apu) → (ran_of n a).apu.sequencer_position ≡ a.sequencer_position
ran_position n a = ap (λ (t : Take). t.apu.sequencer_position) (ran_placed n a.sequencer_position (none a))

-- ---- whether a length counts
working_counts : (a : Apu) → counts_of (working a) ≡ counts_of a
unfolding working passing channels_clocked pushed counts_of any.clocked any.sounded
working_counts a = both_ways Same _ first first
  where
    Same : Apu → Type 0
    Same x = counts_of x ≡ counts_of a

    ticked : Ticked
    ticked = tick_by (every_at 44100) a.sample_counter

    first : Same (with_clocks (pick ticked.made (pushed a).apu a) ticked.counter a.clocks_counter)
    first = both_ways Same ticked.made refl refl

ran_counts : (n : ℕ) (a : Apu) → counts_of (ran_of n a).apu ≡ counts_of a
unfolding working_on
ran_counts n a = iterate_holds (λ (t : Take). counts_of t.apu ≡ counts_of a) working_on (λ t e. working_counts t.apu ∙ e) n (none a) refl

-- ---- a step that idles
ran_idles : (n : ℕ) (a : Apu) → idles_of (ran_of n a).apu ≡ idles_of a
unfolding idles_of
ran_idles n a = rw (ran_position n a, ran_counts n a)

-- the unit at the sequencer's next position
abbrev pub onward : Apu → Apu
onward a = with_position a (pos (next_of a.sequencer_position))

pub onward_ready : (a : Apu) → idles_of a ≡ true → Ready a → Ready (onward a)
onward_ready a e g =
    record {
      held = position_held a g.held _ (idles a e).next;
      floats =
          record { pulse1 = g.floats.pulse1; pulse2 = g.floats.pulse2; wave = g.floats.wave; noise = g.floats.noise; counter = g.floats.counter };
    }

-- after a run, and before more of it
pub idle_ran : (n more : ℕ) (a : Apu) → idles_of a ≡ true
    → iterate more working_on (record { apu = advanced (ran_of n a).apu; bytes = (ran_of n a).bytes }) ≡ ran_of (n + more) (onward a)
idle_ran n more a e =
    let t = ran_of n a in
    let z = pos (next_of a.sequencer_position) in
    let step : advanced t.apu ≡ with_position t.apu z =
    (idles t.apu (ran_idles n a ∙ e)).is ∙ ap (λ (y : ℤ). with_position t.apu (pos (next_of y))) (ran_position n a) in
    ap (λ (x : Apu). iterate more working_on (record { apu = x; bytes = t.bytes })) step
    ∙ ap (iterate more working_on) (sym (ran_placed n z (none a)))
    ∙ sym (iterate_add n more working_on (none (onward a)))
