-- What holds at each turn of the loop over silent frames: the channels' clocks all wait, and what is left to do comes to the whole. Assumes nothing.
use mathlib.Core.Path.{◌≡◌, refl, sym, ap, ap₂, ◌∙◌}
use mathlib.Core.Bool.{true}
use mathlib.Core.List.{List, [], ◌++◌, append-nil}
use Prim.Native.Nat.{ℕ, ◌+◌, ◌-◌, ◌*◌, ◌^◌, ◌≤◌, ◌<◌}
use native.Mathlib.Nat.{add-zero, add_assoc}
use native.Mathlib.Omega.{arith}
use lib.ListN.{length, length-append}
use lib.Seq.{sets, length-sets}
use Rattle.ground.specs.Iterate.{iterate}
use Rattle.ground.proofs.Timers.{iterate_add}
use Rattle.clocks.specs.Calls.{K}
use Rattle.clocks.specs.Distance.{units_in, away_of}
use Rattle.clocks.proofs.Distances.{units, away_some, after_below, kept_below}
use Rattle.log_items.specs.Items.{mix_item, silence, frame_length}
use Rattle.log_items.proofs.Stores.{sets_append}
use Rattle.apu.specs.Held.{Held, FloatsHeld}
use Rattle.apu.specs.declared.Apu.{Apu}
use Rattle.apu_run.specs.Working.{Take, ran_of}
use Rattle.apu_run.specs.Phases.{settings_of, phases_of, converters_of, phases_clocked}
use Rattle.apu_run.specs.Parts.{silent_of, behind, parts_of}
use Rattle.apu_run.specs.declared.frames.Parts.{Parts}
use Rattle.apu_run.specs.declared.frame_step.FrameStep.{FrameStep}
use Rattle.apu_run.specs.declared.phases.Phases.{Phases}
use Rattle.apu_run.proofs.Parts.{Point, point_clock, take_at}
use Rattle.apu_run.proofs.Rans.{point_from, behind_ran, behind_none}
use Rattle.apu_run.proofs.FrameSteps.{frame_step_silent}
use Rattle.apu_run.proofs.FrameTurns.{grows, front, points_front, turn}
use Rattle.apu_run.proofs.Running.{from}

pub record Task : Type 0 where
  pub unit : Apu
  pub count : ℕ
  pub out : List ℕ
  pub start : ℕ

pub record State : Type 0 where
  pub out : List ℕ
  pub units : ℕ
  pub due : ℕ
  pub left : ℕ
  pub at : ℕ
  pub waiting : ℕ

-- the whole, and what is left of it
abbrev whole : Task → Point
whole r = point_from r.unit r.count (units_in r.unit.sample_counter) 0

abbrev ahead : Apu → State → List ℕ → Point
ahead u s l = from (settings_of u) s.left s.units s.waiting (phases_of u) (converters_of u) l

pub record Resting (r : Task) (s : State) : Type 0 where
  pub bytes : List ℕ
  pub silent : silent_of r.unit ≡ true
  pub held : Held r.unit
  pub floats : FloatsHeld r.unit
  pub below : s.units < K
  pub next : s.due ≡ away_of (units s.units)
  pub few : s.waiting + s.left ≤ 32767
  pub room : r.start + length (whole r).1.2 ≤ length r.out
  pub place : s.at ≡ r.start + length bytes
  pub stored : s.out ≡ sets r.out r.start bytes
  pub same : ahead r.unit s bytes ≡ whole r

-- the run that is asked for, by points
run_is : (r : Task) → FloatsHeld r.unit → ran_of r.count r.unit ≡ take_at r.unit (whole r)
run_is r f =
    ap (ran_of r.count) (sym (behind_none r.unit f)) ∙ behind_ran r.unit r.count (units_in r.unit.sample_counter) 0

-- ---- at the start
pub resting_first : {r : Task} {x due : ℕ}
    → silent_of r.unit ≡ true → Held r.unit → FloatsHeld r.unit → x ≡ units_in r.unit.sample_counter → due ≡ away_of (units x)
    → r.count ≤ 32767 → r.start + length (ran_of r.count r.unit).bytes ≤ length r.out
    → Resting r (record { out = r.out; units = x; due = due; left = r.count; at = r.start; waiting = 0 })
resting_first {r} {x} {due} silent held floats xe de few room =
    record {
      bytes = [];
      silent = silent;
      held = held;
      floats = floats;
      below = rw xe (kept_below r.unit.sample_counter floats.counter);
      next = de;
      few = omega arith;
      room = rw (ap (λ (t : Take). length t.bytes) (run_is r floats)) at room;
      place = sym (add-zero r.start);
      stored = refl;
      same = ap (λ (y : ℕ). from (settings_of r.unit) r.count y 0 (phases_of r.unit) (converters_of r.unit) []) xe;
    }

module _ {r : Task} {s : State} (g : Resting r s) where
  pub out_long : length s.out ≡ length r.out
  out_long = ap length g.stored ∙ length-sets r.out r.start g.bytes

  pub due_some : 0 < s.due
  due_some = rw g.next (away_some s.units g.below)

  -- ---- another frame
  module _ (l : s.due ≤ s.left) where
    abbrev u : Apu
    u = r.unit

    abbrev move : Phases → Phases
    move m = phases_clocked (settings_of u) m

    abbrev later : ℕ
    later = s.units + s.due * 2 ^ 48 - K

    abbrev more : List ℕ
    more = g.bytes ++ mix_item silence

    onward : from (settings_of u) (s.left - s.due) later (s.waiting + s.due) (phases_of u) (converters_of u) more ≡ whole r
    onward = go s.due g.next l due_some
      where
        last : ℕ → Phases
        last d = iterate (s.waiting + (d - 1)) move (phases_of u)

        -- the frame's own clock comes after it
        one_more : (d : ℕ) → 0 < d → iterate (s.waiting + d) move (phases_of u) ≡ iterate 1 move (last d)
        one_more d h = ap (λ (n : ℕ). iterate n move (phases_of u)) (split s.waiting d h) ∙ iterate_add (s.waiting + (d - 1)) 1 move (phases_of u)
          where
            split : (w d : ℕ) → 0 < d → w + d ≡ w + (d - 1) + 1
            split w d h = omega arith

        -- a frame's converters and mix, put at the end of what was made
        after : ℕ → Phases → FrameStep → Point
        after d m f = iterate (s.left - d) (point_clock (settings_of u)) (units (s.units + d * 2 ^ 48 - K), (m, f.converters, g.bytes ++ mix_item f.mix))

        go : (d : ℕ) → d ≡ away_of (units s.units) → d ≤ s.left → 0 < d
            → from (settings_of u) (s.left - d) (s.units + d * 2 ^ 48 - K) (s.waiting + d) (phases_of u) (converters_of u) more ≡ whole r
        go d e h some =
            ap₂ (after d) (one_more d some) (sym (frame_step_silent u (last d) (converters_of u) g.silent))
            ∙ rw e
            (turn (settings_of u) (phases_of u) (converters_of u) s.units g.bytes s.left s.waiting g.below _ (rw e at h) refl)
            ∙ g.same

    more_long : length more ≡ length g.bytes + frame_length
    unfolding mix_item
    more_long = length-append g.bytes (mix_item silence)

    pub silent_room : s.at + frame_length ≤ length s.out
    silent_room =
        let first : Point = (units later, (iterate (s.waiting + s.due) move (phases_of u), converters_of u, more)) in
        let under : length more ≤ length (whole r).1.2 =
        rw (ap (λ (p : Point). length p.1.2) onward) at (grows (settings_of u) (s.left - s.due) first) in
        fits s.at r.start (length g.bytes) (length more) (length (whole r).1.2) (length r.out) (length s.out)
        g.place more_long under g.room out_long
      where
        fits : (at start n w f a b : ℕ) → at ≡ start + n → w ≡ n + frame_length → w ≤ f → start + f ≤ a → b ≡ a → at + frame_length ≤ b
        fits at start n w f a b e h i j k = omega arith

    pub resting_on : {out : List ℕ} {x due : ℕ} → out ≡ sets s.out s.at (mix_item silence) → x ≡ later → due ≡ away_of (units x)
        → Resting r (record { out = out; units = x; due = due; left = s.left - s.due; at = s.at + frame_length; waiting = s.waiting + s.due })
    resting_on {out} {x} {due} oe xe de =
        record {
          bytes = more;
          silent = g.silent;
          held = g.held;
          floats = g.floats;
          below = rw (xe, g.next) (after_below s.units g.below);
          next = de;
          few = kept s.waiting s.left s.due l g.few;
          room = g.room;
          place = placed s.at r.start (length g.bytes) (length more) g.place more_long;
          stored =
              oe
              ∙ ap₂ (λ (y : List ℕ) (z : ℕ). sets y z (mix_item silence)) g.stored g.place
              ∙ sym (sets_append r.out r.start g.bytes (mix_item silence));
          same = ap (λ (y : ℕ). from (settings_of u) (s.left - s.due) y (s.waiting + s.due) (phases_of u) (converters_of u) more) xe ∙ onward;
        }
      where
        kept : (w left due : ℕ) → due ≤ left → w + left ≤ 32767 → w + due + (left - due) ≤ 32767
        kept w left due h f = omega arith

        placed : (at start n w : ℕ) → at ≡ start + n → w ≡ n + frame_length → at + frame_length ≡ start + w
        placed at start n w e h = omega arith

  -- ---- no frame is left: what the channels wait for is a run of a unit that is behind
  abbrev last : Take
  last = ran_of s.left (behind r.unit s.units s.waiting)

  last_is : take_at r.unit (front (settings_of r.unit) g.bytes (ahead r.unit s [])) ≡ ran_of r.count r.unit
  last_is =
      let settings = settings_of r.unit in
      let waited = iterate s.waiting (phases_clocked settings) (phases_of r.unit) in
      ap (take_at r.unit)
      (sym (points_front settings s.left g.bytes (units s.units, (waited, converters_of r.unit, [])))
      ∙ ap (ahead r.unit s) (append-nil g.bytes)
      ∙ g.same)
      ∙ sym (run_is r g.floats)

  last_bytes : g.bytes ++ last.bytes ≡ (ran_of r.count r.unit).bytes
  last_bytes =
      ap (λ (t : Take). g.bytes ++ t.bytes) (behind_ran r.unit s.left s.units s.waiting) ∙ ap (λ (t : Take). t.bytes) last_is

  pub last_room : s.at + length last.bytes ≤ length s.out
  last_room =
      let all : length g.bytes + length last.bytes ≡ length (whole r).1.2 =
      sym (length-append g.bytes last.bytes) ∙ ap length last_bytes ∙ ap (λ (t : Take). length t.bytes) (run_is r g.floats) in
      fits s.at r.start (length g.bytes) (length last.bytes) (length (whole r).1.2) (length r.out) (length s.out)
      g.place all g.room out_long
    where
      fits : (at start n m f a b : ℕ) → at ≡ start + n → n + m ≡ f → start + f ≤ a → b ≡ a → at + m ≤ b
      fits at start n m f a b e h j k = omega arith

  pub resting_last : {q : Parts} {out : List ℕ} → q ≡ parts_of last s.at → out ≡ sets s.out s.at last.bytes
      → (q ≡ parts_of (ran_of r.count r.unit) r.start) × (out ≡ sets r.out r.start (ran_of r.count r.unit).bytes)
  resting_last {q} {out} qe oe =
      let whole_run : Take = ran_of r.count r.unit in
      let behind-run : Point = ahead r.unit s [] in (
        qe
            ∙ ap (λ (t : Take). parts_of t s.at) (behind_ran r.unit s.left s.units s.waiting)
            ∙ ap (λ (n : ℕ). record { phases = behind-run.1.0; converters = behind-run.1.1; counter = behind-run.0; at = n })
            (ap (λ (n : ℕ). n + length behind-run.1.2) g.place
            ∙ add_assoc r.start (length g.bytes) (length behind-run.1.2)
            ∙ ap (λ (n : ℕ). r.start + n) (sym (length-append g.bytes behind-run.1.2)))
            ∙ ap (λ (t : Take). parts_of t r.start) last_is,
        oe
            ∙ ap₂ (λ (y : List ℕ) (z : ℕ). sets y z last.bytes) g.stored g.place
            ∙ sym (sets_append r.out r.start g.bytes last.bytes)
            ∙ ap (sets r.out r.start) last_bytes,
      )
