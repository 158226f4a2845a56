-- Whole numbers of 2 ^ -u as floats of a format: `binary32` is f32, `binary64` f64. Assumes nothing.
use Rattle.std.specs.Prelude.{ℕ, ◌^◌, false, Float}
use Rattle.std.specs.Float.{Format}
use Rattle.std.specs.Float.Ieee.{round}

-- k units of 2 ^ -u: the value of the format f that is nearest to k / 2 ^ u
-- (it is k / 2 ^ u itself where k has no more binary digits than the format keeps, and 2 ^ -u is one of its values: `exact` of proofs/Units.antt)
unfoldable pub units_of : Format → ℕ → ℕ → Float
units_of f u k = round f false k (2 ^ u)
