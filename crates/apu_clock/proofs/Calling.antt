-- The ways of a clock call, over plain variables: each is the case of the definition that the tests pick. Assumes nothing.
use Prim.Native.Nat.{ℕ, ◌+◌, ◌-◌, ◌<◌, ◌≤◌}
use mathlib.Core.Path.{◌≡◌, refl, sym}
use mathlib.Core.Bool.{Bool, true, false}
use borrow.Author.Tests.{lt-ltb, le-ltb}
use Rattle.std.specs.Prelude.{Result, Ok, Err}
use Rattle.ground.specs.Pick.{pick}
use Rattle.ground.proofs.Cases.{pick_true, pick_false, pick_holds}
use Rattle.clocks.specs.Counter.{every_at, tick_by}
use Rattle.clocks.specs.Calls.{half_clocks_of}
use Rattle.clocks.specs.declared.sample_counter.Ticked.{Ticked}
use Rattle.frame.specs.Buffers.{Buffers, room_for, framed}
use Rattle.apu.specs.With.{with_clocks}
use Rattle.apu_clock.specs.Clocking.{After, answered, passed, frame_of, frame_due, worked, clock_of, no_room}
use Rattle.apu_clock.specs.Answers.{refusal_of, returned_of}
use Rattle.apu.specs.declared.Apu.{Apu}
use Rattle.apu_clock.specs.declared.clock.Framed.{Framed}
use Rattle.apu_clock.specs.declared.clock.NoRoom.{NoRoom}

-- a working clock
module _
    (a : Apu) (half : ℕ) (double : Bool) (divider place : ℕ) (b : Buffers)
    (t : Ticked) (t-is : t ≡ tick_by (every_at 44100) a.sample_counter)
  where
    pub frame_way : (f : Framed) (c : Buffers) → t.made ≡ true → room_for place b ≡ true
        → f ≡ frame_of a t.counter half double divider → c ≡ framed f.mix place b
        → answered (Ok true) f.apu c ≡ worked a half double divider place b
    unfolding pick worked frame_due
    frame_way f c m r f-is c-is = rw (c-is, ← t-is, m, r, f-is)

    pub refused_way : t.made ≡ true → room_for place b ≡ false → answered (Err (record {})) a b ≡ worked a half double divider place b
    unfolding pick worked frame_due
    refused_way m r = rw (← t-is, m, r)

    pub plain_way : (n : Apu) → t.made ≡ false → n ≡ passed a t.counter half double divider → answered (Ok false) n b ≡ worked a half double divider place b
    unfolding pick worked
    plain_way n m n-is = rw (n-is, ← t-is, m)

-- the call: below 2 half-clocks it ends, else a working clock follows
module _ (a : Apu) (double : Bool) (divider place : ℕ) (b : Buffers) (k : ℕ) (k-is : k ≡ half_clocks_of double) where
  pub short_way : a.clocks_counter + k < 2
      → answered (Ok false) (with_clocks a a.sample_counter (a.clocks_counter + k)) b ≡ clock_of a double divider place b
  unfolding pick clock_of
  short_way h = rw (← k-is, lt-ltb (a.clocks_counter + k) 2 h)

  pub long_way : (r : After) → 2 ≤ a.clocks_counter + k → r ≡ worked a (a.clocks_counter + k - 2) double divider place b
      → r ≡ clock_of a double divider place b
  unfolding pick clock_of
  long_way r h e = rw (← k-is, le-ltb (a.clocks_counter + k) 2 h) e

-- refusal 2 is given exactly where a frame is made and a buffer has no room
abbrev Told : Apu → Bool → ℕ → Buffers → After → Type 0
Told a double place b r = refusal_of r.clocked.answer ≡ pick (no_room a double place b) 2 0

refusal_is : (a : Apu) (double : Bool) (divider place : ℕ) (b : Buffers) → Told a double place b (clock_of a double divider place b)
unfolding clock_of worked frame_due
refusal_is a double divider place b =
    let none = pick_false {A = ℕ} (no_room a double place b) 2 0 in
    pick_holds (Told a double place b) _ _ _
    (λ short. sym (none (rw short)))
    (λ long.
    pick_holds (Told a double place b) _ _ _
    (λ m.
    pick_holds (Told a double place b) _ _ _
    (λ r. sym (none (rw (long, m, r))))
    (λ r. sym (pick_true {A = ℕ} (no_room a double place b) 2 0 (rw (long, m, r)))))
    (λ m. sym (none (rw (long, m)))))

pub told : (a : Apu) (double : Bool) (divider place : ℕ) (b : Buffers) (r : After) → r ≡ clock_of a double divider place b → Told a double place b r
told a double divider place b r e = rw e (refusal_is a double divider place b)

-- the number returned is 0, whatever the answer
pub returned_is : (r : Result Bool NoRoom) → returned_of r ≡ 0
returned_is (Ok made) = refl
returned_is (Err full) = refl
