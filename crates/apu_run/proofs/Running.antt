-- What holds at each turn of the run's loop: what is left to do, from where it stands, comes to the whole. Assumes nothing.
use mathlib.Core.Path.{◌≡◌, refl, sym, ap, ap₂, subst, ◌∙◌}
use mathlib.Core.List.{List, [], ◌++◌}
use Prim.Native.Nat.{ℕ, min, ◌+◌, ◌-◌, ◌*◌, ◌^◌, ◌≤◌, ◌<◌}
use mathlib.Core.Bool.{Bool, true, false, ◌||◌}
use native.Mathlib.Nat.{add-zero}
use native.Mathlib.Omega.{arith}
use Rattle.std.proofs.Math.Nat.{min-le_right, min-eq_left, min-eq_right}
use lib.Dec.{leb, ltb}
use borrow.Author.Tests.{leb-false, ltb-false}
use lib.ListN.{length, length-append}
use lib.Seq.{sets, length-sets}
use lib.Ieee.{Float}
use Rattle.ground.specs.Iterate.{iterate}
use Rattle.ground.specs.Pick.{pick}
use Rattle.ground.proofs.Timers.{iterate_add}
use Rattle.frame.specs.Mixing.{voiced, mixed}
use Rattle.frame.proofs.Ranges.{stepped_held}
use Rattle.frame.specs.Held.{units_of_one, fifth}
use Rattle.frame.proofs.Numbers.{voiced_within, mixed_within, within_numbers}
use Rattle.clocks.specs.Calls.{K}
use Rattle.clocks.specs.Distance.{away_of}
use Rattle.clocks.proofs.Distances.{units, away_some, after_below}
use Rattle.channel_pulse.specs.Pulse as pulse
use Rattle.channel_pulse.specs.Phase.{PulsePhaseHeld, with_pulse_phase}
use Rattle.channel_pulse.specs.declared.pulse_channel.PulseChannel.{PulseChannel}
use Rattle.channel_pulse.specs.declared.phase.PulsePhase.{PulsePhase}
use Rattle.channel_pulse.proofs.Ranges.{pulse_output_le}
use Rattle.channel_wave.proofs.Ranges.{wave_output_le, shift_le}
use Rattle.channel_noise.specs.Noise as noise
use Rattle.channel_noise.specs.Phase.{NoisePhaseHeld, with_noise_phase}
use Rattle.channel_noise.specs.declared.noise_channel.NoiseChannel.{NoiseChannel}
use Rattle.channel_noise.specs.declared.phase.NoisePhase.{NoisePhase}
use Rattle.channel_noise.proofs.Ranges.{noise_output_le}
use Rattle.channel_noise.proofs.Phases.{with_noise_phase_held}
use Rattle.frame.specs.declared.converter.Converter.{Converter}
use Rattle.frame.specs.declared.mixing.Mix.{Mix}
use Rattle.log_items.specs.Items.{mix_item, Known, frame_length}
use Rattle.log_items.proofs.Stores.{sets_append}
use Rattle.apu.specs.declared.Apu.{Apu}
use Rattle.apu_run.specs.Working.{ran_of}
use Rattle.apu_run.specs.Phases.{SettingsHeld, PhasesHeld, ConvertersHeld, settings_of, phases_of, converters_of, phases_clocked}
use Rattle.apu_run.specs.Parts.{behind}
use Rattle.apu_run.specs.FrameStep.{frame_step_of}
use Rattle.apu_run.specs.FrameSettings.{frame_settings_of, FrameSettingsHeld, levels_of, frame_step_by, stood_of, stood_still, calm_of, known_of}
use Rattle.apu_run.specs.declared.phases.Phases.{Phases}
use Rattle.apu_run.specs.declared.phases.Settings.{Settings}
use Rattle.apu_run.specs.declared.phases.Converters.{Converters}
use Rattle.apu_run.specs.declared.frame_settings.FrameSettings.{FrameSettings}
use Rattle.apu_run.specs.declared.levels.Levels.{Levels}
use Rattle.apu_run.specs.declared.frame_step.FrameStep.{FrameStep}
use Rattle.apu_run.proofs.Parts.{Point, point_clock, take_at}
use Rattle.apu_run.proofs.Rans.{point_parts, behind_ran}
use Rattle.apu_run.proofs.FrameSteps.{by_frame_settings}
use Rattle.apu_run.proofs.Moves.{moves_held}
use Rattle.apu_run.proofs.Calm.{calm_levels}
use Rattle.apu_run.proofs.FrameTurns.{grows, turn, rest}

-- what a channel sounds is a nibble
pulse_phase_output : (p : PulseChannel) (t : PulsePhase) → pulse.Held p → PulsePhaseHeld t → pulse.output_of (with_pulse_phase p t) ≤ 15
pulse_phase_output p t h g =
    pulse_output_le (with_pulse_phase p t)
    (record { sweep = h.sweep; position = g.position; duty = h.duty; envelope = h.envelope; frequency = h.frequency; timer = g.timer })

noise_phase_output : (n : NoiseChannel) (t : NoisePhase) → noise.Held n → NoisePhaseHeld t → noise.output_of (with_noise_phase n t) ≤ 15
noise_phase_output n t h g =
    noise_output_le (with_noise_phase n t) (with_noise_phase_held n t h g)

-- ---- a frame's numbers are no NaN, and its converters stay in range
module _ (s : Settings) (m : Phases) (k : Converters) (h : SettingsHeld s) (g : PhasesHeld m) (f : ConvertersHeld k) where
  pub frame_step_known : Known (frame_step_of s m k).mix
  unfolding frame_step_of mixed
  frame_step_known =
      let p = voiced_within k.pulse1 _ _ _ _ 0 (pulse_phase_output s.pulse1 _ h.pulse1 g.pulse1) f.pulse1 in
      let q = voiced_within k.pulse2 _ _ _ _ 1 (pulse_phase_output s.pulse2 _ h.pulse2 g.pulse2) f.pulse2 in
      let w = voiced_within k.wave _ _ _ _ 2 (wave_output_le _) f.wave in
      let n = voiced_within k.noise _ _ _ _ 3 (noise_phase_output s.noise _ h.noise g.noise) f.noise in
      record {
        pulse1 = within_numbers fifth _ p;
        pulse2 = within_numbers fifth _ q;
        wave = within_numbers fifth _ w;
        noise = within_numbers fifth _ n;
        all = within_numbers units_of_one _ (mixed_within _ _ _ _ p q w n);
      }

  pub frame_step_held : ConvertersHeld (frame_step_of s m k).converters
  unfolding frame_step_of voiced
  frame_step_held =
      record {
        pulse1 = stepped_held k.pulse1 _ _ (pulse_phase_output s.pulse1 _ h.pulse1 g.pulse1) f.pulse1;
        pulse2 = stepped_held k.pulse2 _ _ (pulse_phase_output s.pulse2 _ h.pulse2 g.pulse2) f.pulse2;
        wave = stepped_held k.wave _ _ (wave_output_le _) f.wave;
        noise = stepped_held k.noise _ _ (noise_phase_output s.noise _ h.noise g.noise) f.noise;
      }

-- ---- the loop: what it is asked, with what it leaves as it is and its settings, and where it stands
pub record Task : Type 0 where
  pub ahead : ℕ
  pub count : ℕ
  pub waiting : ℕ
  pub out : List ℕ
  pub start : ℕ
  pub settings : Settings
  pub frame_settings : FrameSettings
  pub phases : Phases
  pub converters : Converters

pub record State : Type 0 where
  pub out : List ℕ
  pub phases : Phases
  pub converters : Converters
  pub units : ℕ
  pub due : ℕ
  pub left : ℕ
  pub at : ℕ
  pub pending : ℕ
  pub levels : Levels
  pub known : ℕ

-- so many clocks from a point whose channels have `waiting` clocks to come
abbrev pub from : Settings → ℕ → ℕ → ℕ → Phases → Converters → List ℕ → Point
from s count ahead waiting m k l = iterate count (point_clock s) (units ahead, (iterate waiting (phases_clocked s) m, k, l))

-- what comes to the whole
abbrev whole : Task → Point
whole r = from r.settings r.count r.ahead r.waiting r.phases r.converters []

-- what goes into the converters so many clocks on
abbrev levels_after : Task → ℕ → Phases → Levels
levels_after r n m = levels_of r.frame_settings (iterate n (phases_clocked r.settings) m) r.settings.wave.buffer

-- the converters as they are: what the loop has of a muted channel's does not count
abbrev pub still : Task → Converters → Converters
still r k = stood_still r.frame_settings r.converters k

-- it is known for so many clocks
abbrev pub Seen : Task → Phases → Levels → ℕ → Type 0
Seen r m l known = (n : ℕ) → n < known → levels_after r n m ≡ l

pub record Running (r : Task) (s : State) : Type 0 where
  pub bytes : List ℕ
  pub held : SettingsHeld r.settings
  pub frame_settings : r.frame_settings ≡ frame_settings_of r.settings
  pub phases : PhasesHeld s.phases
  pub converters : ConvertersHeld (still r s.converters)
  pub below : s.units < K
  pub next : s.due ≡ away_of (units s.units)
  pub few : s.pending + s.left ≤ 32767
  pub seen : Seen r s.phases s.levels s.known
  pub room : r.start + length (whole r).1.2 ≤ length r.out
  pub place : s.at ≡ r.start + length bytes
  pub stored : s.out ≡ sets r.out r.start bytes
  pub same : from r.settings s.left s.units s.pending s.phases (still r s.converters) bytes ≡ whole r

item_long : (m : Mix) → length (mix_item m) ≡ frame_length
unfolding mix_item
item_long m = refl

-- ---- at the start
stood_same : (b : Bool) (d : Converter) → stood_of b d d ≡ d
unfolding pick
stood_same true d = refl
stood_same false d = refl

still_first : (t : FrameSettings) (k : Converters) → stood_still t k k ≡ k
still_first t k =
    rw (
      stood_same t.pulse1.route.muted k.pulse1,
      stood_same t.pulse2.route.muted k.pulse2,
      stood_same t.wave_route.muted k.wave,
      stood_same t.noise_route.muted k.noise,
    )

pub running_first : {r : Task} {due : ℕ} {levels : Levels}
    → SettingsHeld r.settings → r.frame_settings ≡ frame_settings_of r.settings → PhasesHeld r.phases → ConvertersHeld r.converters
    → r.ahead < K → due ≡ away_of (units r.ahead) → r.waiting + r.count ≤ 32767 → r.start + length (whole r).1.2 ≤ length r.out
    → Running r
    (record {
      out = r.out;
      phases = r.phases;
      converters = r.converters;
      units = r.ahead;
      due = due;
      left = r.count;
      at = r.start;
      pending = r.waiting;
      levels = levels;
      known = 0;
    })
running_first {r} held te me ke xe de few room =
    record {
      bytes = [];
      held = held;
      frame_settings = te;
      phases = me;
      converters = subst ConvertersHeld (sym (still_first r.frame_settings r.converters)) ke;
      below = xe;
      next = de;
      few = few;
      seen = λ n l. absurd (never n l);
      room = room;
      place = sym (add-zero r.start);
      stored = refl;
      same =
          ap (λ (k : Converters). from r.settings r.count r.ahead r.waiting r.phases k []) (still_first r.frame_settings r.converters);
    }
  where
    never : (n : ℕ) → n < 0 → ⊥
    never n l = omega arith

-- ---- at each turn
module _ {r : Task} {s : State} (g : Running r s) where
  pub due_some : 0 < s.due
  due_some = rw g.next (away_some s.units g.below)

  pub out_long : length s.out ≡ length r.out
  out_long = ap length g.stored ∙ length-sets r.out r.start g.bytes

  pub frame_settings_held : FrameSettingsHeld r.frame_settings
  unfolding frame_settings_of
  frame_settings_held =
      rw g.frame_settings
      (record {
        pulse1 = g.held.pulse1.envelope.current;
        pulse2 = g.held.pulse2.envelope.current;
        wave = shift_le r.settings.wave g.held.wave;
        noise = g.held.noise.envelope.current;
      })

-- the channels' clocks up to the frame that is due, or the last ones
abbrev ahead : State → ℕ
ahead s = min (s.due - 1) s.left

pub few_clocks : {r : Task} {s : State} {n : ℕ} → Running r s → n ≡ ahead s → s.pending + n ≤ 32767
few_clocks {r} {s} {n} g e = omega (arith, min-le_right (s.due - 1) s.left, g.few)

-- what moves, after those
pub record Moved (r : Task) (s : State) (m : Phases) : Type 0 where
  pub running : Running r s
  pub is : m ≡ iterate (s.pending + ahead s) (phases_clocked r.settings) s.phases

pub moved-of : {r : Task} {s : State} {n : ℕ} {m : Phases}
    → Running r s → n ≡ ahead s → m ≡ iterate (s.pending + n) (phases_clocked r.settings) s.phases → Moved r s m
moved-of {r} {s} g ne me = record { running = g; is = me ∙ ap (λ (x : ℕ). iterate (s.pending + x) (phases_clocked r.settings) s.phases) ne }

pub moved_held : {r : Task} {s : State} {m : Phases} → Moved r s m → PhasesHeld m
moved_held {r} {s} v =
    let g : Running r s = v.running in
    rw v.is (moves_held r.settings g.held (s.pending + ahead s) s.phases g.phases)

-- ---- after the last frame: the point that the loop stands at is the whole
pub running_last : {r : Task} {s : State} {m : Phases} {k : Converters} {c : Float} {y : ℕ}
    → Moved r s m → s.left < s.due → k ≡ still r s.converters → y ≡ s.units + s.left * 2 ^ 48 → c ≡ units y
    → (record { phases = m; converters = k; counter = c; at = s.at } ≡ point_parts (whole r) r.start)
    × (s.out ≡ sets r.out r.start (whole r).1.2)
running_last {r} {s} {m} {k} {c} {y} v l ke ye ce =
    let g : Running r s = v.running in
    let moved : m ≡ iterate (s.pending + s.left) (phases_clocked r.settings) s.phases =
    v.is ∙ ap (λ (n : ℕ). iterate (s.pending + n) (phases_clocked r.settings) s.phases) (min-eq_right (let h : s.left ≤ s.due - 1 = omega arith in h)) in
    let all : ◌≡◌ {A = Point} (c, (m, k, g.bytes)) (whole r) =
    ap₂ (λ (x : Float) (y : Converters). (x, (m, y, g.bytes))) (ce ∙ ap units ye) ke
    ∙ rest r.settings s.phases (still r s.converters) s.units g.bytes s.left s.pending g.below m (rw g.next at l) moved
    ∙ g.same in (
      ap (λ (n : ℕ). record { phases = m; converters = k; counter = c; at = n }) g.place ∙ ap (λ (p : Point). point_parts p r.start) all,
      g.stored ∙ ap (λ (p : Point). sets r.out r.start p.1.2) all,
    )

-- the whole is the run of a unit that is behind
pub whole_ran : {r : Task} {s : State} → Running r s → (u : Apu) → r.settings ≡ settings_of u → r.phases ≡ phases_of u → r.converters ≡ converters_of u
    → take_at u (whole r) ≡ ran_of r.count (behind u r.ahead r.waiting)
whole_ran {r} g u se me ke = rw (se, me, ke) (sym (behind_ran u r.count r.ahead r.waiting))

-- ---- after another frame
-- with the converters as they are
abbrev stilled : Task → FrameStep → FrameStep
stilled r f = record { converters = still r f.converters; mix = f.mix }

pub record Framed (r : Task) (s : State) (m : Phases) (f : FrameStep) : Type 0 where
  pub moved : Moved r s m
  pub due : s.due ≤ s.left
  pub is : stilled r f ≡ frame_step_of r.settings m (still r s.converters)

-- what moves where the frame is due
abbrev moving : Task → State → Phases
moving r s = iterate (s.pending + ahead s) (phases_clocked r.settings) s.phases

-- the channels looked at, anew or before: what moves is `pending` clocks behind, and the levels are those of the frame
pub record Looked (r : Task) (s : State) (m : Phases) (pending : ℕ) (l : Levels) (known : ℕ) : Type 0 where
  pub running : Running r s
  pub due : s.due ≤ s.left
  pub held : PhasesHeld m
  pub is : iterate pending (phases_clocked r.settings) m ≡ moving r s
  pub few : pending ≤ s.pending + ahead s
  pub levels : l ≡ levels_of r.frame_settings (moving r s) r.settings.wave.buffer
  pub seen : Seen r m l known

-- a run is over where no frame comes
pub not_over : (left due : ℕ) → ltb left due ≡ false → due ≤ left
not_over left due e = ltb-false left due e

module _ {r : Task} {s : State} {m : Phases} (v : Moved r s m) where
  known_levels : (fast : Bool) (n : ℕ) → n < known_of fast r.settings r.frame_settings m
      → levels_after r n m ≡ levels_of r.frame_settings m r.settings.wave.buffer
  unfolding known_of pick
  known_levels true n h = absurd (never n h)
    where
      never : (n : ℕ) → n < 0 → ⊥
      never n h = omega arith
  known_levels false n h =
      calm_levels r.settings r.frame_settings m r.settings.wave.buffer (moved_held v) n (under n (calm_of r.settings r.frame_settings m) h)
    where
      under : (n calm : ℕ) → n < calm + 1 → n ≤ calm
      under n calm h = omega arith

pub looked_anew : {r : Task} {s : State} {m m' : Phases} {l l' : Levels} {pending k known : ℕ} (fast : Bool) → Moved r s m → ltb s.left s.due ≡ false
    → l ≡ levels_of r.frame_settings m r.settings.wave.buffer → k ≡ known_of fast r.settings r.frame_settings m
    → m' ≡ m → pending ≡ 0 → l' ≡ l → known ≡ k → Looked r s m' pending l' known
looked_anew {r} {s} {m} {m'} {l} {l'} {pending} {k} {known} fast v d le ce me pe e ke = rw (me, pe, e, ke) looked
  where
    looked : Looked r s m 0 l k
    looked =
        record {
          running = v.running;
          due = not_over s.left s.due d;
          held = moved_held v;
          is = unfold iterate in v.is;
          few = omega arith;
          levels = le ∙ ap (λ (x : Phases). levels_of r.frame_settings x r.settings.wave.buffer) v.is;
          seen = λ n h. known_levels v fast n (rw ce at h) ∙ sym le;
        }

-- neither over nor unknown
neither : (a b : Bool) → (a || b) ≡ false → (a ≡ false) × (b ≡ false)
neither true b e = (e, absurd (let z : ◌≡◌ {A = ℕ} 0 1 = cc in omega arith))
neither false b e = (refl, e)

pub looked_before : {r : Task} {s : State} {m : Phases} {l : Levels} {n pending known : ℕ} → Running r s → n ≡ ahead s
    → (ltb s.left s.due || leb s.known (s.pending + n)) ≡ false
    → m ≡ s.phases → pending ≡ s.pending + n → l ≡ s.levels → known ≡ s.known → Looked r s m pending l known
looked_before {r} {s} {m} {l} {n} {pending} {known} g ne t me pe e ke = rw (me, pe, e, ke) looked
  where
    tests : (ltb s.left s.due ≡ false) × (leb s.known (s.pending + n) ≡ false)
    tests = neither (ltb s.left s.due) (leb s.known (s.pending + n)) t

    is : iterate (s.pending + n) (phases_clocked r.settings) s.phases ≡ moving r s
    is = ap (λ (x : ℕ). iterate (s.pending + x) (phases_clocked r.settings) s.phases) ne

    looked : Looked r s s.phases (s.pending + n) s.levels s.known
    looked =
        record {
          running = g;
          due = not_over s.left s.due tests.0;
          held = g.phases;
          is = is;
          few = omega (arith, ne);
          levels =
              sym (g.seen (s.pending + n) (leb-false s.known (s.pending + n) tests.1))
              ∙ ap (λ (x : Phases). levels_of r.frame_settings x r.settings.wave.buffer) is;
          seen = g.seen;
        }

-- a frame of these levels is the frame
pub step_is : (r : Task) (s : State) → r.frame_settings ≡ frame_settings_of r.settings
    → stilled r (frame_step_by r.frame_settings (levels_of r.frame_settings (moving r s) r.settings.wave.buffer) s.converters)
    ≡ frame_step_of r.settings (moving r s) (still r s.converters)
step_is r s e = go r.frame_settings e
  where
    go : (t : FrameSettings) → t ≡ frame_settings_of r.settings
        → (let f = frame_step_by t (levels_of t (moving r s) r.settings.wave.buffer) s.converters in
        ◌≡◌ {A = FrameStep}
        (record { converters = stood_still t r.converters f.converters; mix = f.mix })
        (frame_step_of r.settings (moving r s) (stood_still t r.converters s.converters)))
    go t e = rw e (by_frame_settings r.settings (moving r s) r.converters s.converters)

abbrev pub framed_of : {r : Task} {s : State} {m : Phases} {pending known : ℕ} {l : Levels} {f : FrameStep}
    → Looked r s m pending l known → f ≡ frame_step_by r.frame_settings l s.converters → Framed r s (moving r s) f
framed_of {r} {s} {l = l} {f = f} v fe =
    record {
      moved = record { running = v.running; is = refl };
      due = v.due;
      is = ap (stilled r) (fe ∙ ap (λ (x : Levels). frame_step_by r.frame_settings x s.converters) v.levels) ∙ step_is r s v.running.frame_settings;
    }

module _ {r : Task} {s : State} {m : Phases} {f : FrameStep} (v : Framed r s m f) where
  abbrev before : Running r s
  before = v.moved.running

  abbrev bytes : List ℕ
  bytes = before.bytes ++ mix_item f.mix

  abbrev later : ℕ
  later = s.units + s.due * 2 ^ 48 - K

  bytes_long : length bytes ≡ length before.bytes + frame_length
  bytes_long = length-append before.bytes (mix_item f.mix) ∙ ap (λ (n : ℕ). length before.bytes + n) (item_long f.mix)

  to_due : ahead s ≡ s.due - 1
  to_due = min-eq_left (let h : s.due - 1 ≤ s.left = omega arith in h)

  onward : from r.settings (s.left - s.due) later 1 m (still r f.converters) bytes ≡ whole r
  onward =
      let moved = v.moved.is ∙ ap (λ (n : ℕ). iterate (s.pending + n) (phases_clocked r.settings) s.phases) to_due in
      go s.due (stilled r f) before.next v.due moved v.is
    where
      go : (d : ℕ) (t : FrameStep) → d ≡ away_of (units s.units) → d ≤ s.left → m ≡ iterate (s.pending + (d - 1)) (phases_clocked r.settings) s.phases
          → t ≡ frame_step_of r.settings m (still r s.converters)
          → from r.settings (s.left - d) (s.units + d * 2 ^ 48 - K) 1 m t.converters (before.bytes ++ mix_item t.mix) ≡ whole r
      go d t e l h i =
          rw (i, e)
          (turn r.settings s.phases (still r s.converters) s.units before.bytes s.left s.pending before.below m (rw e at l) (rw e at h)
          ∙ before.same)

  pub framed_known : Known f.mix
  framed_known =
      subst (λ (x : FrameStep). Known x.mix) (sym v.is)
      (frame_step_known r.settings m (still r s.converters) before.held (moved_held v.moved) before.converters)

  pub framed_room : s.at + frame_length ≤ length s.out
  framed_room =
      let last : Point = (units later, (iterate 1 (phases_clocked r.settings) m, still r f.converters, bytes)) in
      let under : length bytes ≤ length (whole r).1.2 = rw (ap (λ (p : Point). length p.1.2) onward) at (grows r.settings (s.left - s.due) last) in
      fits s.at r.start (length before.bytes) (length bytes) (length (whole r).1.2) (length r.out) (length s.out)
      before.place bytes_long under before.room (out_long before)
    where
      fits : (at start n w f a b : ℕ) → at ≡ start + n → w ≡ n + frame_length → w ≤ f → start + f ≤ a → b ≡ a → at + frame_length ≤ b
      fits at start n w f a b e h i j k = omega arith

-- and the loop goes on
module _ {r : Task} {s : State} {m : Phases} {pending known : ℕ} {l : Levels} {f : FrameStep}
    (looked : Looked r s m pending l known)
    (fe : f ≡ frame_step_by r.frame_settings l s.converters)
  where
    abbrev v : Framed r s (moving r s) f
    v = framed_of looked fe

    abbrev g : Running r s
    g = looked.running

    -- the clock of the frame's own call comes after those that are still to come
    one_more : iterate (pending + 1) (phases_clocked r.settings) m ≡ iterate 1 (phases_clocked r.settings) (moving r s)
    one_more = iterate_add pending 1 (phases_clocked r.settings) m ∙ ap (iterate 1 (phases_clocked r.settings)) looked.is

    pub running_on : {out : List ℕ} {x due : ℕ} → out ≡ sets s.out s.at (mix_item f.mix) → x ≡ s.units + s.due * 2 ^ 48 - K → due ≡ away_of (units x)
        → Running r
        (record {
          out = out;
          phases = m;
          converters = f.converters;
          units = x;
          due = due;
          left = s.left - s.due;
          at = s.at + frame_length;
          pending = pending + 1;
          levels = l;
          known = known;
        })
    running_on {out} {x} {due} oe xe de =
        record {
          bytes = bytes v;
          held = g.held;
          frame_settings = g.frame_settings;
          phases = looked.held;
          converters =
              subst (λ (x : FrameStep). ConvertersHeld x.converters) (sym v.is)
              (frame_step_held r.settings (moving r s) (still r s.converters) g.held (moved_held v.moved) g.converters);
          below = rw (xe, g.next) (after_below s.units g.below);
          next = de;
          few = fewer s.pending s.left s.due pending (due_some g) looked.due (rw (to_due v) at looked.few) g.few;
          seen = looked.seen;
          room = g.room;
          place = placed s.at r.start (length g.bytes) (length (bytes v)) g.place (bytes_long v);
          stored =
              oe
              ∙ ap₂ (λ (y : List ℕ) (z : ℕ). sets y z (mix_item f.mix)) g.stored g.place
              ∙ sym (sets_append r.out r.start g.bytes (mix_item f.mix));
          same =
              ap₂ (λ (y : ℕ) (p : Phases). iterate (s.left - s.due) (point_clock r.settings) (units y, (p, still r f.converters, bytes v))) xe one_more
              ∙ onward v;
        }
      where
        placed : (at start n w : ℕ) → at ≡ start + n → w ≡ n + frame_length → at + frame_length ≡ start + w
        placed at start n w e h = omega arith

        fewer : (pending left due p : ℕ) → 0 < due → due ≤ left → p ≤ pending + (due - 1) → pending + left ≤ 32767 → p + 1 + (left - due) ≤ 32767
        fewer pending left due p some l k h = omega arith
