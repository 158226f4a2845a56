-- A count of 16 bits, once or twice. Assumes nothing.
use native.Mathlib.Omega.{arith}
use Prim.Native.Nat.{ℕ, ◌*◌, ◌≤◌, ◌<◌}
use native.Mathlib.Nat.{mul-le-mul, le_of_lt}
use Rattle.log_scan.proofs.scan.one_clock.Goals as goal

once-or-twice : (k h : ℕ) → h ≤ 2 → k < 65536 → k * h < 18446744073709551616
once-or-twice k h p q = let m : k * h ≤ 65536 * 2 = mul-le-mul (le_of_lt q) p in omega arith

pub overflow_mul-calls : goal.overflow_mul-calls
overflow_mul-calls c =
    let halves = c.half_clocks in
    let m = once-or-twice c.args.count halves.result halves.ensures.upper_bound (omega (arith, c.ranges.count)) in
    omega (arith, m)

pub returns : goal.returns
returns c = rw (c.one_record.ensures, c.half_clocks.ensures.value)
