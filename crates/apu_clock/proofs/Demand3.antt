-- Demand 3 over the real unit: every use, seen through the unit's clocks, is one of the four kinds,
-- so the law of the clocks applies to any row of uses. Assumes nothing.
use mathlib.Core.Path.{◌≡◌, refl, sym, ap, ap₂, ◌∙◌}
use mathlib.Core.Bool.{Bool, true, false, ◌&&◌}
use mathlib.Core.List.{List, ◌∷◌}
use Prim.Native.Nat.{ℕ, zero, suc, ◌+◌, ◌-◌, ◌*◌, ◌/◌, ◌^◌, ◌≤◌, ◌<◌}
use native.Mathlib.Omega.{arith}
use lib.Dec.{ltb}
use lib.Ieee.{Float, of_bits}
use Rattle.std.specs.Prelude.{Result, Ok, Err}
use Rattle.ground.specs.Pick.{pick}
use Rattle.ground.proofs.Cases.{pick_holds, pick_false}
use Rattle.clocks.specs.Counter.{every_at, tick_by}
use Rattle.clocks.specs.Calls.{Call, at_speed, half_clocks_of, Clocks, clocked, call, run, fresh, times, K}
use Rattle.clocks.specs.Rows.{steps, kinds}
use Rattle.clocks.specs.Distance.{units_in}
use Rattle.clocks.specs.Metered as metered
use Rattle.clocks.proofs.Seen.{seen, seen_conserved, seen_conserved_from}
use Rattle.clocks.proofs.Distances.{kept_is, kept_below, kept_value}
use Rattle.clocks.proofs.Conserved.{K-is, frames_by_formula}
use Rattle.frame.specs.Buffers.{Buffers, room_for}
use Rattle.apu.specs.Held.{Held, FloatsHeld}
use Rattle.apu.specs.Start as start
use Rattle.apu.specs.Registers.{read_of, write_of}
use Rattle.apu_clock.specs.Clocking.{After, answered, pushed, passed, frame_of, frame_due, worked, clock_of, makes_frame}
use Rattle.apu_clock.specs.Answers.{refusal_of}
use Rattle.apu_clock.specs.Demand3.{start_of, Demand3, meter_of, KeptConserved}
use Rattle.apu_clock.specs.Uses.{Use, read, write, pcm12, pcm34, clock, State, counted, step, read_kind, write_kind, clock_kind, kind, see}
use Rattle.apu.specs.declared.Apu.{Apu}
use Rattle.apu.specs.declared.registers.WrongAddress.{WrongAddress}
use Rattle.apu_clock.specs.declared.clock.NoRoom.{NoRoom}
use Rattle.apu.proofs.Untouched.{write_untouched}
use Rattle.apu_clock.proofs.Untouched.{finish_untouched}
use Rattle.apu_clock.proofs.Calling.{told}

-- N
abbrev pub n : Float
n = every_at 44100

-- reads and writes leave the clocks
read_leaves : (r : Result ℕ WrongAddress) (m : Clocks) → call n (read_kind r) m ≡ m
read_leaves (Ok b) m = refl
read_leaves (Err wrong) m = refl

write_leaves : (w : Result Unit WrongAddress) (m : Clocks) → call n (write_kind w) m ≡ m
write_leaves (Ok done) m = refl
write_leaves (Err wrong) m = refl

pub write_seen : (addr v : ℕ) (s : State) → see (step (write addr v) s) ≡ see s
unfolding step
write_seen addr v s =
    let u = write_untouched s.apu addr v in
    rw (u.half, u.counter)

-- a clock call, by its speed
at-speed : (d : Bool) (m : Clocks) → call n (at_speed d) m ≡ clocked n (half_clocks_of d) m
at-speed true m = refl
at-speed false m = refl

-- what follows the sample counter leaves the clocks as they were put
passed_half : (a : Apu) (counter : Float) (half : ℕ) (d : Bool) (v : ℕ) → (passed a counter half d v).clocks_counter ≡ half
unfolding passed
passed_half a counter half d v = (finish_untouched _ d v).half

passed_counter : (a : Apu) (counter : Float) (half : ℕ) (d : Bool) (v : ℕ) → (passed a counter half d v).sample_counter ≡ counter
unfolding passed
passed_counter a counter half d v = (finish_untouched _ d v).counter

-- ---- the law of one clock call
abbrev pub after : After → ℕ → Clocks
after r f = record { half = r.clocked.apu.clocks_counter; counter = r.clocked.apu.sample_counter; frames = counted r.clocked.answer f }

abbrev pub before : Apu → ℕ → Clocks
before a f = record { half = a.clocks_counter; counter = a.sample_counter; frames = f }

abbrev pub Law : Apu → ℕ → Bool → After → Type 0
Law a f d r = after r f ≡ call n (clock_kind d r.clocked.answer) (before a f)

module _ (a : Apu) (f : ℕ) (d : Bool) (v place : ℕ) (b : Buffers) (long : ltb (a.clocks_counter + half_clocks_of d) 2 ≡ false) where
  framed_law : (tick_by n a.sample_counter).made ≡ true → (c : Buffers)
      → Law a f d (answered (Ok true) (frame_of a (tick_by n a.sample_counter).counter (a.clocks_counter + half_clocks_of d - 2) d v).apu c)
  unfolding frame_of
  framed_law m c = rw (passed_half (pushed a).apu _ _ d v, passed_counter (pushed a).apu _ _ d v, at-speed d (before a f), long, m)

  plain_law : (tick_by n a.sample_counter).made ≡ false
      → Law a f d (answered (Ok false) (passed a (tick_by n a.sample_counter).counter (a.clocks_counter + half_clocks_of d - 2) d v) b)
  plain_law m = rw (passed_half a _ _ d v, passed_counter a _ _ d v, at-speed d (before a f), long, m)

  worked_law : Law a f d (worked a (a.clocks_counter + half_clocks_of d - 2) d v place b)
  unfolding worked frame_due
  worked_law =
      pick_holds (Law a f d) _ _ _
      (λ m. pick_holds (Law a f d) _ _ _ (λ _. framed_law m b) (λ _. refl))
      (λ m. plain_law m)

pub clock_law : (a : Apu) (f : ℕ) (d : Bool) (v place : ℕ) (b : Buffers) → Law a f d (clock_of a d v place b)
unfolding clock_of
clock_law a f d v place b =
    pick_holds (Law a f d) _ _ _
    (λ short. rw (at-speed d (before a f), short))
    (λ long. worked_law a f d v place b long)

-- ---- every use
law : (c : Use) (s : State) → see (step c s) ≡ call n (kind c s) (see s)
unfolding step kind
law (read addr) s = sym (read_leaves (read_of s.apu addr) (see s))
law (write addr v) s = write_seen addr v s ∙ sym (write_leaves (write_of s.apu addr v).answer (see s))
law pcm12 s = refl
law pcm34 s = refl
law (clock d v place b) s = clock_law s.apu s.frames d v place b

-- both constructors make units of fresh clocks
start_clocks : (skip dmg : Bool) → see (start_of skip dmg) ≡ fresh
unfolding pick start.skipped start.fresh of_bits
start_clocks true dmg = refl
start_clocks false dmg = refl

-- demand 3
pub demand_3 : Demand3
demand_3 =
    record {
      number = K-is;
      conserved = λ skip dmg uses. seen_conserved see kind step law uses (start_of skip dmg) (start_clocks skip dmg);
      others = λ u s e. law u s ∙ ap (λ (k : Call). call n k (see s)) e;
      refusals = λ u s e. law u s ∙ ap (λ (k : Call). call n k (see s)) e;
    }

-- from any unit in its ranges, with what it has stored
pub stored_held : (a : Apu) → Held a → FloatsHeld a → metered.Held K (meter_of a)
stored_held a h f = record { half = below h.clocks; rest = kept_below a.sample_counter f.counter }
  where
    below : {g : ℕ} → g ≤ 1 → g < 2
    below l = omega arith

pub stored_seen : (a : Apu) (f : ℕ) → FloatsHeld a → before a f ≡ metered.clocks_of 48 (meter_of a) f
stored_seen a f k = ap (λ (x : Float). record { half = a.clocks_counter; counter = x; frames = f }) (kept_is a.sample_counter k.counter)

pub kept_conserved : (a : Apu) → Held a → FloatsHeld a → (f : ℕ) → KeptConserved a f
kept_conserved a h k f =
    record {
      stored = kept_value a.sample_counter k.counter;
      conserved = λ uses. seen_conserved_from see kind step law uses (record { apu = a; frames = f }) (meter_of a) f (stored_held a h k) (stored_seen a f k);
    }

-- both constructors' units have nothing stored: `from_nothing` of the clocks makes `Conserved` of it
pub start_stored : (skip dmg : Bool) → meter_of (start.constructed skip dmg) ≡ metered.fresh
unfolding pick start.skipped start.fresh of_bits units_in
start_stored true dmg = refl
start_stored false dmg = refl

-- ---- a row of clock calls, each with room for a frame: its frames by the formula
room_kind : (a : Apu) (d : Bool) (v place : ℕ) (b : Buffers) → room_for place b ≡ true → clock_kind d (clock_of a d v place b).clocked.answer ≡ at_speed d
room_kind a d v place b e = accepted (clock_of a d v place b).clocked.answer (told a d v place b _ refl ∙ pick_false _ 2 0 (rw e (no_way (makes_frame a d))))
  where
    no_way : (m : Bool) → (m && false) ≡ false
    no_way true = refl
    no_way false = refl

    accepted : (x : Result Bool NoRoom) → refusal_of x ≡ 0 → clock_kind d x ≡ at_speed d
    accepted (Ok made) e = refl
    accepted (Err full) e = absurd (omega (arith, e))

room_kinds : (d : Bool) (v place : ℕ) (b : Buffers) → room_for place b ≡ true → (k : ℕ) (s : State)
    → kinds kind step (times k (clock d v place b)) s ≡ times k (at_speed d)
unfolding kinds times kind
room_kinds d v place b e zero s = refl
room_kinds d v place b e (suc k) s =
    ap₂ (λ (c : Call) (cs : List Call). c ∷ cs) (room_kind s.apu d v place b e) (room_kinds d v place b e k (step (clock d v place b) s))

pub frames_of_calls : (skip dmg : Bool) (v place : ℕ) (b : Buffers) → room_for place b ≡ true → (k : ℕ)
    → (steps step (times k (clock false v place b)) (start_of skip dmg)).frames ≡ k * 2 ^ 48 / K
frames_of_calls skip dmg v place b e k =
    let s = start_of skip dmg in
    ap (λ (m : Clocks). m.frames) (seen see kind step n law (times k (clock false v place b)) s)
    ∙ ap₂ (λ (cs : List Call) (m : Clocks). (run n cs m).frames) (room_kinds false v place b e k s) (start_clocks skip dmg)
    ∙ frames_by_formula k
