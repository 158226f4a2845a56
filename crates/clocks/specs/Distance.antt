-- The units in a sample counter, and how far the next frame is, in working clocks. Assumes nothing.
use Rattle.std.specs.Prelude.{ℕ, zero, suc, ◌+◌, ◌*◌, ◌/◌, ◌^◌, Float}
use Rattle.std.specs.Float.{nan, inf, fin}
use Rattle.std.specs.Float.Ieee.{up, down}
use Rattle.ground.specs.Pick.{pick}
use Rattle.clocks.specs.Counter.{every_at, tick_by}

-- a sample counter in units of 2 ^ -48, rounded down, its sign not read (a kept one is a whole number of them: `kept_is` of proofs/Distances.antt);
-- `fin s m e` is m * 2 ^ e with the sign s, and 2 ^ e is up e / down e
unfoldable pub units_in : Float → ℕ
units_in nan = 0
units_in (inf s) = 0
units_in (fin s m e) = m * up e * 2 ^ 48 / down e

-- "Add 1 to the f64 sample counter. At or above N .. make a frame": which of the next `fuel` working clocks is the first that does, the very next one being 1;
-- `fuel` where none does
unfoldable pub away_by : Float → ℕ → Float → ℕ
away_by n zero counter = 0
away_by n (suc fuel) counter = pick (tick_by n counter).made 1 (away_by n fuel (tick_by n counter).counter + 1)

-- with "N, the f64 nearest to 1048576/44100", which is below 24: from a counter of 0 or more, one of the next 24 does
abbrev pub away_of : Float → ℕ
away_of counter = away_by (every_at 44100) 24 counter
