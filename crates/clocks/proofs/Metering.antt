-- The meter counts what the f64 counter would make of so many clock calls at one speed, from any kept clocks; and both keep their ranges. Assumes nothing.
use mathlib.Core.Path.{◌≡◌, refl, ◌∙◌}
use mathlib.Core.Bool.{Bool, true, false, not}
use Prim.Native.Nat.{ℕ, zero, suc, ◌+◌, ◌-◌, ◌*◌, ◌/◌, ◌^◌, ◌<◌}
use native.Mathlib.Nat.{mod-lt}
use native.Mathlib.Omega.{arith}
use lib.Dec.{T, leb, nleb→lt, lit<}
use lib.Ieee.{Float, binary64, fits}
use Rattle.ground.specs.Units.{units_of}
use Rattle.ground.proofs.Same.{units_fit}
use Rattle.clocks.specs.declared.meter.Meter.{Meter}
use Rattle.clocks.specs.Counter.{every_at, tick_by, Kept}
use Rattle.clocks.specs.Calls.{at_speed, run, normals, doubles, times, K}
use Rattle.clocks.specs.Metered.{Held, gained, metered, clocks_of}
use Rattle.clocks.proofs.Working.{left, Room, room_pos, tick_units}
use Rattle.clocks.proofs.Conserved.{rest_lt, from_kept, every_units, room}

-- the half-clocks of n calls at one speed
pub gained_times : (d : Bool) (n : ℕ) → 2 * normals (times n (at_speed d)) + doubles (times n (at_speed d)) ≡ gained d n
unfolding normals doubles times
gained_times true zero = refl
gained_times false zero = refl
gained_times true (suc n) =
    let h : 2 * normals (times n (at_speed true)) + doubles (times n (at_speed true)) ≡ n = gained_times true n in
    omega arith
gained_times false (suc n) =
    let h : 2 * normals (times n (at_speed false)) + doubles (times n (at_speed false)) ≡ n * 2 = gained_times false n in
    omega arith

module _ (u M : ℕ) (r : Room u M) where
  -- so many frames more, and the meter's clocks
  pub meter_counts : (m : Meter) (d : Bool) (n f : ℕ) → Held M m
      → run (units_of binary64 u M) (times n (at_speed d)) (clocks_of u m f) ≡ clocks_of u (metered u M m d n).meter (f + (metered u M m d n).frames)
  meter_counts m d n f h = from_kept u M f m.half m.rest (times n (at_speed d)) r h.half h.rest ∙ rw (gained_times d n)

  -- a meter's ranges are kept
  pub metered_held : (m : Meter) (d : Bool) (n : ℕ) → Held M (metered u M m d n).meter
  metered_held m d n = record { half = mod-lt (m.half + gained d n) (lit< tt); rest = mod-lt (m.rest + (m.half + gained d n) / 2 * 2 ^ u) (room_pos r) }

  -- the sample counter's range is kept by a working clock
  pub tick_kept : (x : Float) → Kept u M x → Kept u M (tick_by (units_of binary64 u M) x).counter
  tick_kept x k =
      rw (k.is, tick_units u M k.units r k.below)
      (go (leb M (k.units + 2 ^ u)) (nleb→lt M (k.units + 2 ^ u)))
    where
      go : (b : Bool) → (T (not b) → k.units + 2 ^ u < M) → Kept u M (left u M b (k.units + 2 ^ u)).counter
      go true l = record { units = k.units + 2 ^ u - M; below = rest_lt k.units (2 ^ u) M k.below r.low; is = refl }
      go false l = record { units = k.units + 2 ^ u; below = l tt; is = refl }

-- ---- at 44,100
pub meter_counts_44100 : (m : Meter) (d : Bool) (n f : ℕ) → Held K m
    → run (every_at 44100) (times n (at_speed d)) (clocks_of 48 m f) ≡ clocks_of 48 (metered 48 K m d n).meter (f + (metered 48 K m d n).frames)
meter_counts_44100 m d n f h = rw every_units (meter_counts 48 K room m d n f h)

pub tick_kept_44100 : (x : Float) → Kept 48 K x → Kept 48 K (tick_by (every_at 44100) x).counter
tick_kept_44100 x k = rw every_units (tick_kept 48 K room x k)

-- a counter in range is an f64
pub kept_fits : (u M : ℕ) (x : Float) → Kept u M x → T (fits binary64 x)
kept_fits u M x k = rw k.is (units_fit binary64 u k.units)
