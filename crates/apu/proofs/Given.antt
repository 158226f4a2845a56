-- What a constructor or a write hands back is in its ranges again, numbers and floats. Assumes nothing.
use mathlib.Core.Path.{◌≡◌}
use mathlib.Core.Bool.{Bool}
use Prim.Native.Nat.{ℕ, ◌≤◌}
use Rattle.apu.specs.Held.{Held, FloatsHeld}
use Rattle.apu.specs.Start.{fresh, skipped}
use Rattle.apu.specs.Registers.{write_of}
use Rattle.apu.specs.declared.Apu.{Apu}
use Rattle.apu.specs.declared.registers.Written.{Written}
use Rattle.apu.proofs.Ranges.{new_held, skipped_held, write_held}
use Rattle.apu.proofs.Floats.{new_floats, skipped_floats, write_floats}

pub new_given : (dmg : Bool) {a : Apu} → a ≡ fresh dmg → Held a × FloatsHeld a
new_given dmg e = rw e (new_held dmg, new_floats dmg)

pub skipped_given : (dmg : Bool) {a : Apu} → a ≡ skipped dmg → Held a × FloatsHeld a
skipped_given dmg e = rw e (skipped_held dmg, skipped_floats dmg)

pub write_given : (a : Apu) (addr v : ℕ) (w : Written) → v ≤ 255 → Held a → w ≡ write_of a addr v → Held w.apu × (FloatsHeld a → FloatsHeld w.apu)
write_given a addr v w k h e = rw e (write_held a addr v k h, λ (f : FloatsHeld a). write_floats a addr v f)
