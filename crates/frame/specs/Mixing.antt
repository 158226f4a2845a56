-- The ten numbers of a frame, from document 01, "Steps of a clock call". Assumes nothing.
use Rattle.std.specs.Prelude.{ℕ, ◌+◌, ◌/◌, ◌%◌, ◌^◌, Bool, cond, eqb, pos, Float}
use Rattle.std.specs.Float.{binary32}
use Rattle.std.specs.Float.Ieee.{of_bits, of_int, add, mul, div}
use Rattle.frame.specs.Converter.{f0, stepped}
use Rattle.frame.specs.declared.converter.Converter.{Converter}
use Rattle.frame.specs.declared.mixing.Sides.{Sides}
use Rattle.frame.specs.declared.mixing.Voiced.{Voiced}
use Rattle.frame.specs.declared.mixing.Mix.{Mix}

-- the f32s 1, 5 and 8
abbrev pub f1 : Float
f1 = of_bits binary32 0x3F80_0000

abbrev pub f5 : Float
f5 = of_bits binary32 0x40A0_0000

abbrev pub f8 : Float
f8 = of_bits binary32 0x4100_0000

-- "Then out/8, times (volume+1) where FF25 selects it (else 0), /5"
unfoldable pub side_of : Float → ℕ → Bool → Float
side_of sample volume selected =
    div binary32 (cond selected (mul binary32 (div binary32 sample f8) (add binary32 (of_int binary32 (pos volume)) f1)) f0) f5

-- on the right and on the left, each by its volume and whether FF25 selects it
unfoldable pub sides_of : Float → ℕ → ℕ → Bool → Bool → Sides
sides_of sample right left rightward leftward = record { right = side_of sample right rightward; left = side_of sample left leftward }

-- FF25 as Pan Docs has it: bits 0 to 3 the right side, 4 to 7 the left, pulse 1 lowest in each
unfoldable pub selected_of : ℕ → ℕ → Bool
selected_of selection bit = eqb (selection / 2 ^ bit % 2) 1

-- a channel, 0 to 3, through its converter to both sides; FF24's volumes are bits 0 to 2 for the right, 4 to 6 for the left
unfoldable pub voiced : Converter → ℕ → Bool → ℕ → ℕ → ℕ → Voiced
voiced d output muted control selection channel =
    let after = stepped d output muted in
    record {
      converter = after.converter;
      sides = sides_of after.dac_out (control % 8) (control / 16 % 8) (selected_of selection channel) (selected_of selection (channel + 4));
    }

-- "`all` adds pulse1, pulse2, wave, noise from the left"
abbrev pub sum4 : Float → Float → Float → Float → Float
sum4 a b c d = add binary32 (add binary32 (add binary32 a b) c) d

-- the four channels' numbers, and `all`'s
unfoldable pub mixed : Sides → Sides → Sides → Sides → Mix
mixed p q w n = record {
  pulse1 = p;
  pulse2 = q;
  wave = w;
  noise = n;
  all = record { right = sum4 p.right q.right w.right n.right; left = sum4 p.left q.left w.left n.left };
}
