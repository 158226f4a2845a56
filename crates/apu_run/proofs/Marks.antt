-- A run of working clocks neither reads nor changes the half-clocks and the stored bit; it leaves power as it is, keeps the ranges, and only adds bytes.
-- Assumes nothing.
use Prim.Native.Nat.{ℕ, zero, suc, ◌≤◌}
use mathlib.Core.Path.{◌≡◌, refl, sym, ap, ◌∙◌}
use mathlib.Core.Bool.{Bool, true, false}
use mathlib.Core.List.{List, ◌++◌, append_assoc}
use lib.Ieee.{Float}
use Rattle.ground.specs.Pick.{pick}
use Rattle.ground.specs.Iterate.{iterate}
use Rattle.ground.proofs.Cases.{both_ways}
use Rattle.ground.proofs.Timers.{pick_ap, iterate_part}
use Rattle.clocks.specs.Counter.{every_at, tick_by}
use Rattle.clocks.specs.declared.sample_counter.Ticked.{Ticked}
use Rattle.apu.specs.With.{with_clocks, with_bit}
use Rattle.apu.specs.declared.Apu.{Apu}
use Rattle.apu.proofs.Ranges.{clocks_held, bit_held}
use Rattle.apu.proofs.Floats.{kept}
use Rattle.apu_clock.specs.Sequencer.{channels_clocked, advanced}
use Rattle.apu_clock.specs.Clocking.{pushed}
use Rattle.apu_clock.proofs.Ranges.{advanced_held}
use Rattle.apu_clock.proofs.Untouched.{advances}
use Rattle.apu_run.specs.Working.{passing, working, working_bytes, Take, working_on}
use Rattle.apu_run.proofs.Ranges.{Ready}
use Rattle.apu_run.specs.Owed.{marked, fallen}
use Rattle.apu_run.proofs.Beats.{with_halves}

-- ---- the marks: half-clocks and stored bit
abbrev pub marked_take : Take → ℕ → Bool → Take
marked_take t half bit = record { apu = marked t.apu half bit; bytes = t.bytes }

passing_marked : (a : Apu) (c : Float) (h k : ℕ) (x y : Bool) → passing (with_clocks (with_bit a y) c k) ≡ marked (passing (with_clocks (with_bit a x) c h)) k y
unfolding passing channels_clocked
passing_marked a c h k x y = pick_ap (λ (z : Apu). marked z k y) a.power (channels_clocked (with_clocks (with_bit a x) c h)) (with_clocks (with_bit a x) c h)

pub working_marked : (t : Take) (h : ℕ) (y : Bool) → working_on (marked_take t h y) ≡ marked_take (working_on t) h y
unfolding working_on working working_bytes pushed pick
working_marked t h y =
    ap (λ (x : Apu). record { apu = x; bytes = (working_on t).bytes }) (go (tick_by (every_at 44100) t.apu.sample_counter).made)
  where
    a : Apu
    a = t.apu

    c : Float
    c = (tick_by (every_at 44100) a.sample_counter).counter

    half : ℕ
    half = a.clocks_counter

    bit : Bool
    bit = a.divider_sequencer_clock_bit

    go : (m : Bool)
        → passing (with_clocks (pick m (pushed (marked a h y)).apu (marked a h y)) c h) ≡ marked (passing (with_clocks (pick m (pushed a).apu a) c half)) h y
    go true = passing_marked (pushed a).apu c half h bit y
    go false = passing_marked a c half h bit y

pub ran_marked : (n : ℕ) (t : Take) (h : ℕ) (y : Bool) → iterate n working_on (marked_take t h y) ≡ marked_take (iterate n working_on t) h y
ran_marked n t h y = iterate_part (λ (x : Take). marked_take x h y) working_on working_on (λ x. working_marked x h y) n t

-- so a unit's own marks stay: it is what is made of the unit with just those marks
pub working_own : (t : Take) → working_on t ≡ marked_take (working_on t) t.apu.clocks_counter t.apu.divider_sequencer_clock_bit
working_own t = working_marked t t.apu.clocks_counter t.apu.divider_sequencer_clock_bit

pub ran_own : (n : ℕ) (t : Take) → iterate n working_on t ≡ marked_take (iterate n working_on t) t.apu.clocks_counter t.apu.divider_sequencer_clock_bit
ran_own n t = ran_marked n t t.apu.clocks_counter t.apu.divider_sequencer_clock_bit

-- the half-clocks alone
pub working_half : (t : Take) (h : ℕ) → working_on (with_halves t h) ≡ with_halves (working_on t) h
working_half t h = working_marked t h t.apu.divider_sequencer_clock_bit ∙ ap (λ (x : Take). with_halves x h) (sym (working_own t))

pub ran_half : (n : ℕ) (t : Take) (h : ℕ) → iterate n working_on (with_halves t h) ≡ with_halves (iterate n working_on t) h
ran_half n t h = ran_marked n t h t.apu.divider_sequencer_clock_bit ∙ ap (λ (x : Take). with_halves x h) (sym (ran_own n t))

-- ---- power
pub working_power : (a : Apu) → (working a).power ≡ a.power
unfolding working passing channels_clocked pushed
working_power a = both_ways On _ first first
  where
    On : Apu → Type 0
    On x = x.power ≡ a.power

    ticked : Ticked
    ticked = tick_by (every_at 44100) a.sample_counter

    first : On (with_clocks (pick ticked.made (pushed a).apu a) ticked.counter a.clocks_counter)
    first = both_ways On ticked.made refl refl

pub ran_power : (n : ℕ) (t : Take) → (iterate n working_on t).apu.power ≡ t.apu.power
unfolding iterate working_on
ran_power zero t = refl
ran_power (suc n) t = ran_power n (working_on t) ∙ working_power t.apu

-- ---- bytes made before stay in front
abbrev pub front : List ℕ → Take → Take
front l t = record { apu = t.apu; bytes = l ++ t.bytes }

working_front : (l : List ℕ) (t : Take) → working_on (front l t) ≡ front l (working_on t)
unfolding working_on
working_front l t = ap (λ (x : List ℕ). record { apu = working t.apu; bytes = x }) (append_assoc l t.bytes (working_bytes t.apu))

pub ran_front : (n : ℕ) (l : List ℕ) (t : Take) → iterate n working_on (front l t) ≡ front l (iterate n working_on t)
ran_front n l t = iterate_part (front l) working_on working_on (working_front l) n t

-- ---- the ranges
pub marked_ready : (a : Apu) (h : ℕ) (y : Bool) → h ≤ 1 → Ready a → Ready (marked a h y)
marked_ready a h y l g =
    record {
      held = bit_held _ (clocks_held a g.held _ h l) y;
      floats =
          record { pulse1 = g.floats.pulse1; pulse2 = g.floats.pulse2; wave = g.floats.wave; noise = g.floats.noise; counter = g.floats.counter };
    }

pub advanced_ready : (a : Apu) → Ready a → Ready (advanced a)
advanced_ready a g = record { held = advanced_held a g.held; floats = kept (advances a) g.floats }

pub fallen_ready : (a : Apu) → Ready a → Ready (fallen a)
fallen_ready a g = advanced_ready (with_bit a false) (marked_ready a a.clocks_counter false g.held.clocks g)
