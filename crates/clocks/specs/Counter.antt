-- The f64 sample counter: one working clock of it, and the range that it keeps. Assumes nothing.
use Rattle.std.specs.Prelude.{◌≡◌, Bool, true, false, ℕ, ◌<◌, pos, Float}
use Rattle.std.specs.Float.{fin, binary64}
use Rattle.std.specs.Float.Ieee.{round, add, sub, le}
use Rattle.ground.specs.Units.{units_of}
use Rattle.clocks.specs.declared.sample_counter.Ticked.{Ticked}

-- the f64 1.0
abbrev pub f64_one : Float
f64_one = fin false 1 (pos 0)

-- N at a rate; document 01 has the rate 44100: "N, the f64 nearest to 1048576/44100"
unfoldable pub every_at : ℕ → Float
every_at rate = round binary64 false 1048576 rate

-- "At or above N .. make a frame and subtract N": by whether the sum is
abbrev pub taken : Bool → Float → Float → Ticked
taken true n sum = record { made = true; counter = sub binary64 sum n }
taken false n sum = record { made = false; counter = sum }

-- "Add 1 to the f64 sample counter", then the above
unfoldable pub tick_by : Float → Float → Ticked
tick_by n counter = taken (le n (add binary64 counter f64_one)) n (add binary64 counter f64_one)

-- the range of a sample counter: a whole number of 2 ^ -u below N, which is M of them
pub record Kept (u M : ℕ) (counter : Float) : Type 0 where
  pub units : ℕ
  pub below : units < M
  pub is : counter ≡ units_of binary64 u units
