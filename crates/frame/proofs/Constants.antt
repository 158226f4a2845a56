-- What the converter's constant is. Assumes nothing.
use mathlib.Core.Path.{◌≡◌, refl}
use mathlib.Core.Bool.{false}
use lib.Ieee.{binary32, round, of_bits}
use Rattle.frame.specs.Converter.{keep}

-- the pattern 3F7EF9DB is the f32 nearest to 996 / 1000
pub keep_is : keep ≡ round binary32 false 996 1000
unfolding of_bits round
keep_is = refl
