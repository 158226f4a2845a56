-- The converter's rule, from document 01, "Steps of a clock call": "each operation in f32", and "Subnormals are kept". Assumes nothing.
use Rattle.std.specs.Prelude.{ℕ, Bool, true, false, pos, Float}
use Rattle.std.specs.Float.{binary32}
use Rattle.std.specs.Float.Ieee.{of_bits, of_int, sub, mul, div}
use Rattle.frame.specs.declared.converter.Converter.{Converter}
use Rattle.frame.specs.declared.converter.Converted.{Converted}

-- the f32s 0 and 15, by their patterns
abbrev pub f0 : Float
f0 = of_bits binary32 0x0000_0000

abbrev pub f15 : Float
f15 = of_bits binary32 0x4170_0000

-- "the f32 nearest to 0.996" (that it is: `keep_is` of proofs/Constants.antt)
abbrev pub keep : Float
keep = of_bits binary32 0x3F7E_F9DB

-- "in = output/15"
abbrev pub in_of : ℕ → Float
in_of output = div binary32 (of_int binary32 (pos output)) f15

-- "out = in - capacitor"
abbrev pub out_of : Float → ℕ → Float
out_of capacitor output = sub binary32 (in_of output) capacitor

-- "capacitor = in - out*0.996"
abbrev pub charged : Float → ℕ → Float
charged capacitor output = sub binary32 (in_of output) (mul binary32 (out_of capacitor output) keep)

-- "A muted one gives 0 and its capacitor stays", else the three above: by whether it is muted
unfoldable pub stepped : Converter → ℕ → Bool → Converted
stepped d output true = record { converter = d; dac_out = f0 }
stepped d output false = record { converter = record { capacitor = charged d.capacitor output }; dac_out = out_of d.capacitor output }

-- "Start: everything 0"
abbrev pub fresh : Converter
fresh = record { capacitor = f0 }
