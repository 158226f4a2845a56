-- What a clock call hands back is in its ranges again, numbers and floats; and its refusal is refusal 2. Assumes nothing.
use mathlib.Core.Path.{◌≡◌}
use mathlib.Core.Bool.{Bool}
use Prim.Native.Nat.{ℕ}
use Rattle.ground.specs.Pick.{pick}
use Rattle.frame.specs.Buffers.{Buffers}
use Rattle.apu.specs.Held.{Held, FloatsHeld}
use Rattle.apu.specs.declared.Apu.{Apu}
use Rattle.apu_clock.specs.Clocking.{After, after, clock_of, no_room}
use Rattle.apu_clock.specs.Answers.{refusal_of, returned_of}
use Rattle.apu_clock.specs.declared.clock.Clocked.{Clocked}
use Rattle.apu_clock.proofs.Calling.{told, returned_is}
use Rattle.apu_clock.proofs.Ranges.{clock_held}
use Rattle.apu_clock.proofs.Floats.{clock_floats}

module _ (a : Apu) (double : Bool) (divider place : ℕ) (b : Buffers) where
  given : (r : After) → Held a → r ≡ clock_of a double divider place b → Held r.clocked.apu × (FloatsHeld a → FloatsHeld r.clocked.apu)
  given r h e = rw e (clock_held a double divider place b h, λ (f : FloatsHeld a). clock_floats a double divider place b h f)

  pub clock_given : (r : Clocked) (c : Buffers) → Held a → after r c ≡ clock_of a double divider place b
      → ((after r c ≡ clock_of a double divider place b) × (refusal_of r.answer ≡ pick (no_room a double place b) 2 0) × (returned_of r.answer ≡ 0))
      × (Held r.apu × (FloatsHeld a → FloatsHeld r.apu))
  clock_given r c h e = ((e, told a double divider place b (after r c) e, returned_is r.answer), given (after r c) h e)
