-- The floats' ranges hold of both constructors' units, and no write touches a float. Assumes nothing.
use mathlib.Core.Path.{◌≡◌, refl, sym, ◌∙◌}
use mathlib.Core.Bool.{Bool, false}
use Prim.Native.Nat.{ℕ, ◌^◌}
use native.Mathlib.Nat.{zero-mul}
use lib.Dec.{lit<}
use lib.Pow.{pow_pos}
use lib.Ieee.{binary64, of_bits, round}
use lib.Ieee.Scale.{round_same}
use Rattle.ground.specs.Units.{units_of}
use Rattle.clocks.specs.Counter.{Kept}
use Rattle.clocks.specs.Calls.{K}
use Rattle.frame.proofs.Ranges.{fresh_held}
use Rattle.apu.specs.Held.{FloatsHeld}
use Rattle.apu.specs.Start as start
use Rattle.apu.specs.Registers.{write_of}
use Rattle.apu.specs.declared.Apu.{Apu}
use Rattle.apu.proofs.Untouched.{Untouched, write_untouched}

-- the f64 0.0 is no unit of 2 ^ -48
bits_zero : of_bits binary64 0 ≡ round binary64 false 0 1
unfolding of_bits round
bits_zero = refl

zero_kept : Kept 48 K (of_bits binary64 0)
zero_kept = record {
  units = 0;
  below = lit< tt;
  is = bits_zero ∙ sym (unfold units_of in round_same binary64 false 0 (2 ^ 48) 0 1 (pow_pos 48) (lit< tt) (sym (zero-mul (2 ^ 48))));
}

pub new_floats : (dmg : Bool) → FloatsHeld (start.fresh dmg)
unfolding start.fresh
new_floats dmg = record { pulse1 = fresh_held; pulse2 = fresh_held; wave = fresh_held; noise = fresh_held; counter = zero_kept }

pub skipped_floats : (dmg : Bool) → FloatsHeld (start.skipped dmg)
unfolding start.skipped start.fresh
skipped_floats dmg = record { pulse1 = fresh_held; pulse2 = fresh_held; wave = fresh_held; noise = fresh_held; counter = zero_kept }

-- ---- what leaves converters and counter alone leaves the ranges
pub kept : {a b : Apu} → Untouched a b → FloatsHeld a → FloatsHeld b
kept u h = record {
  pulse1 = rw u.pulse1 h.pulse1;
  pulse2 = rw u.pulse2 h.pulse2;
  wave = rw u.wave h.wave;
  noise = rw u.noise h.noise;
  counter = rw u.counter h.counter;
}

pub write_floats : (a : Apu) (addr v : ℕ) → FloatsHeld a → FloatsHeld (write_of a addr v).apu
write_floats a addr v h = kept (write_untouched a addr v) h
