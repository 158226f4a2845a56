-- Which group an offset is in, by its bounds; and what holds of each group's value holds of the offset's own. Assumes nothing.
use mathlib.Core.Path.{◌≡◌}
use mathlib.Core.Bool.{false}
use Prim.Native.Nat.{ℕ, ◌≤◌, ◌<◌}
use native.Mathlib.Omega.{arith}
use borrow.Author.Tests.{ne_eqb, lt-ltb, le-ltb}
use lib.Dec.{eqb}
use Rattle.ground.specs.Pick.{pick}
use Rattle.ground.proofs.Cases.{both_ways}
use Rattle.apu.specs.Registers.{PerGroup, by_offset}

module _ {A : Type 0} (at : ℕ) (each : PerGroup A) where
  pub at_pulse1 : (at ≡ 0 → ⊥) → at < 5 → by_offset at each ≡ each.pulse1
  unfolding by_offset pick
  at_pulse1 h k = rw (ne_eqb at 0 h, lt-ltb at 5 k)

  not_first : 5 ≤ at → eqb at 0 ≡ false
  not_first h = ne_eqb at 0 (λ (e : at ≡ 0). omega arith)

  pub at_pulse2 : 5 ≤ at → at < 10 → by_offset at each ≡ each.pulse2
  unfolding by_offset pick
  at_pulse2 h k = rw (not_first h, le-ltb at 5 h, lt-ltb at 10 k)

  pub at_wave : 10 ≤ at → at < 15 → by_offset at each ≡ each.wave
  unfolding by_offset pick
  at_wave h k =
      let five : 5 ≤ at = omega arith in
      rw (not_first five, le-ltb at 5 five, le-ltb at 10 h, lt-ltb at 15 k)

  pub at_noise : 15 ≤ at → at < 20 → by_offset at each ≡ each.noise
  unfolding by_offset pick
  at_noise h k =
      let five : 5 ≤ at = omega arith in
      let ten : 10 ≤ at = omega arith in
      rw (not_first five, le-ltb at 5 five, le-ltb at 10 ten, le-ltb at 15 h, lt-ltb at 20 k)

  pub past_groups : 20 ≤ at → by_offset at each ≡ each.rest
  unfolding by_offset pick
  past_groups h =
      let five : 5 ≤ at = omega arith in
      let ten : 10 ≤ at = omega arith in
      let fifteen : 15 ≤ at = omega arith in
      rw (not_first five, le-ltb at 5 five, le-ltb at 10 ten, le-ltb at 15 fifteen, le-ltb at 20 h)

  pub of_each : (P : A → Type 0) → P each.sweep → P each.pulse1 → P each.pulse2 → P each.wave → P each.noise → P each.rest
      → P (by_offset at each)
  unfolding by_offset
  of_each P s p q w n r = both_ways P _ s (both_ways P _ p (both_ways P _ q (both_ways P _ w (both_ways P _ n r))))
