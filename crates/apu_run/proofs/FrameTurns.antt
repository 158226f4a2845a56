-- From one frame to the next, and what is left after the last one. Assumes nothing.
use mathlib.Core.Path.{◌≡◌, refl, sym, ap, ◌∙◌}
use mathlib.Core.Bool.{Bool, true, false}
use mathlib.Core.List.{List, ◌++◌, append_assoc}
use Prim.Native.Nat.{ℕ, zero, suc, ◌+◌, ◌-◌, ◌*◌, ◌^◌, ◌≤◌, ◌<◌}
use native.Mathlib.Nat.{le_trans, le_refl, le-add_right}
use native.Mathlib.Omega.{arith}
use lib.Ieee.{Float}
use lib.ListN.{length, length-append}
use Rattle.ground.specs.Pick.{pick}
use Rattle.ground.specs.Iterate.{iterate}
use Rattle.ground.proofs.Timers.{iterate_add, iterate_part}
use Rattle.clocks.specs.Calls.{K}
use Rattle.clocks.specs.Counter.{every_at, tick_by}
use Rattle.clocks.specs.Distance.{away_of}
use Rattle.clocks.proofs.Distances.{units}
use Rattle.clocks.proofs.Chunks.{before, through}
use Rattle.log_items.specs.Items.{mix_item}
use Rattle.apu_run.specs.Phases.{phases_clocked}
use Rattle.apu_run.specs.FrameStep.{frame_step_of}
use Rattle.apu_run.specs.declared.phases.Phases.{Phases}
use Rattle.apu_run.specs.declared.phases.Settings.{Settings}
use Rattle.apu_run.specs.declared.phases.Converters.{Converters}
use Rattle.apu_run.proofs.Parts.{Rest, Point, rest_clock, rest_frame, point_clock}

module _ (s : Settings) where
  -- what is written stays
  framed_grows : (b : Bool) (a : Rest) → length a.2 ≤ length (pick b (rest_frame s a) a).2
  unfolding pick
  framed_grows true a = rw length-append (le-add_right (length a.2) (length (mix_item (frame_step_of s a.0 a.1).mix)))
  framed_grows false a = le_refl (length a.2)

  pub grows : (n : ℕ) (p : Point) → length p.1.2 ≤ length (iterate n (point_clock s) p).1.2
  unfolding iterate
  grows zero p = le_refl (length p.1.2)
  grows (suc n) p = le_trans (framed_grows (tick_by (every_at 44100) p.0).made p.1) (grows n (point_clock s p))

  -- bytes made before stay in front
  abbrev pub front : List ℕ → Point → Point
  front l p = (p.0, (p.1.0, p.1.1, l ++ p.1.2))

  framed_front : (b : Bool) (l : List ℕ) (a : Rest) → pick b (rest_frame s (a.0, a.1, l ++ a.2)) (a.0, a.1, l ++ a.2)
      ≡ (let f = pick b (rest_frame s a) a in (f.0, f.1, l ++ f.2))
  unfolding pick
  framed_front true l a = let f = frame_step_of s a.0 a.1 in ap (λ (x : List ℕ). (a.0, f.converters, x)) (append_assoc l a.2 (mix_item f.mix))
  framed_front false l a = refl

  point_front : (l : List ℕ) (p : Point) → point_clock s (front l p) ≡ front l (point_clock s p)
  point_front l p =
      ap (λ (a : Rest). ((tick_by (every_at 44100) p.0).counter, rest_clock s a)) (framed_front (tick_by (every_at 44100) p.0).made l p.1)

  pub points_front : (n : ℕ) (l : List ℕ) (p : Point) → iterate n (point_clock s) (front l p) ≡ front l (iterate n (point_clock s) p)
  points_front n l p = iterate_part (front l) (point_clock s) (point_clock s) (point_front l) n p

  -- p clocks of the channels are still to come at the start, and 1 at the end
  abbrev move : Phases → Phases
  move m = phases_clocked s m

  rest_clocks : (n : ℕ) (m : Phases) (k : Converters) (l : List ℕ) → iterate n (rest_clock s) (m, k, l) ≡ (iterate n move m, k, l)
  unfolding iterate
  rest_clocks zero m k l = refl
  rest_clocks (suc n) m k l = rest_clocks n (move m) k l

  abbrev point : Float → Rest → Point
  point c a = (c, a)

  module _ (m : Phases) (k : Converters) (x : ℕ) (l : List ℕ) (left p : ℕ) (h : x < K) where
    abbrev away : ℕ
    away = away_of (units x)

    pub turn : (m' : Phases) → away ≤ left → m' ≡ iterate (p + (away - 1)) move m
        → let f = frame_step_of s m' k in
        iterate (left - away) (point_clock s) (units (x + away * 2 ^ 48 - K), (iterate 1 move m', f.converters, l ++ mix_item f.mix))
        ≡ iterate left (point_clock s) (units x, (iterate p move m, k, l))
    turn m' g e =
        let start : Phases = iterate p move m in
        let end : Phases = iterate (away - 1) move start in
        let moved : m' ≡ end = e ∙ iterate_add p (away - 1) move m in
        ap
        (λ (y : Phases).
        let f = frame_step_of s y k in
        iterate (left - away) (point_clock s) (units (x + away * 2 ^ 48 - K), (iterate 1 move y, f.converters, l ++ mix_item f.mix)))
        moved
        ∙ sym
        (ap (λ (n : ℕ). iterate n (point_clock s) (units x, (start, k, l))) (split away left g)
        ∙ iterate_add away (left - away) (point_clock s) (units x, (start, k, l))
        ∙ ap (iterate (left - away) (point_clock s))
        (through point (point_clock s) (rest_clock s) (rest_frame s) (λ c a. refl) x (start, k, l) h
        ∙ ap (λ (a : Rest). (units (x + away * 2 ^ 48 - K), rest_clock s (rest_frame s a))) (rest_clocks (away - 1) start k l)
        ∙ unfold iterate in refl))
      where
        split : (d n : ℕ) → d ≤ n → n ≡ d + (n - d)
        split d n h = omega arith

    pub rest : (m' : Phases) → left < away → m' ≡ iterate (p + left) move m
        → (units (x + left * 2 ^ 48), (m', k, l)) ≡ iterate left (point_clock s) (units x, (iterate p move m, k, l))
    rest m' g e =
        ap (λ (y : Phases). (units (x + left * 2 ^ 48), (y, k, l))) (e ∙ iterate_add p left move m)
        ∙ sym
        (before point (point_clock s) (rest_clock s) (rest_frame s) (λ c a. refl) left x (iterate p move m, k, l) h g
        ∙ ap (λ (a : Rest). (units (x + left * 2 ^ 48), a)) (rest_clocks left (iterate p move m) k l))
