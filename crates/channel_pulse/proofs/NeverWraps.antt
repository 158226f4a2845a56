-- The sweep's sum and difference never wrap, whatever the shift, since what is shifted is no more than the shadow. Assumes nothing.
use Prim.Native.Nat.{ℕ, ◌≤◌}
use native.Mathlib.Omega.{arith}
use lib.Pow.{shr_le}
use Rattle.channel_pulse.specs.Sweep.{NeverWraps}

-- "The shadow is at most 2047, so the sum is at most 4094 and the difference never below 0"
pub never_wraps : (shadow shift : ℕ) → shadow ≤ 2047 → NeverWraps shadow shift
never_wraps shadow shift h =
    let shifted = shr_le shadow shift in
    record { sum = omega (arith, shifted); difference = shifted }
