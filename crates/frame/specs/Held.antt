-- The ranges of a frame's floats, over whole numbers of 2 ^ -149, the smallest f32 above zero. No register or clock call asks them. Assumes nothing.
use Rattle.std.specs.Prelude.{◌≡◌, ℕ, ◌*◌, ◌^◌, ◌≤◌, ◌<◌, false, not, T, Float}
use Rattle.std.specs.Float.{binary32}
use Rattle.std.specs.Float.Ieee.{fits, is_nan}
use Rattle.std.specs.Float.Ieee.Digits.{Equals}
use Rattle.std.specs.Float.Ieee.Exact.{HasValue}
use Rattle.frame.specs.declared.converter.Converter.{Converter}
use Rattle.frame.specs.declared.mixing.Sides.{Sides}

-- 1.0 in units of 2 ^ -149
abbrev pub units_of_one : ℕ
units_of_one = 2 ^ 149

-- the f32 nearest to 0.2, 3E4CCCCD, in those units
abbrev pub fifth : ℕ
fifth = 13421773 * 2 ^ 123

-- c lies from 0 to 1: finite, without a sign, and exactly so many units, no more than 1.0 has
pub record Charge (c : Float) : Type 0 where
  pub units : ℕ
  pub is : HasValue c false units units_of_one
  pub most : units ≤ units_of_one

-- a converter's range: its capacitor is an f32, from 0 to 1
pub record Held (d : Converter) : Type 0 where
  pub single : T (fits binary32 d.capacitor)
  pub charge : Charge d.capacitor

-- what a capacitor of k units becomes while output 0 drains it: some units are left, and up to 124 all of them ("Subnormals are kept")
pub record Drained (k : ℕ) (c : Float) : Type 0 where
  pub units : ℕ
  pub is : HasValue c false units units_of_one
  pub some : 0 < units
  pub same : k ≤ 124 → units ≡ k

-- x is finite and, whatever its sign, exactly so many units in size, no more than k
pub record Within (k : ℕ) (x : Float) : Type 0 where
  pub units : ℕ
  pub is : Equals x units units_of_one
  pub most : units ≤ k

-- x is a number: no NaN
abbrev pub Number : Float → Type 0
Number x = T (not (is_nan x))

-- so are both of a channel's
pub record Numbers (s : Sides) : Type 0 where
  pub right : Number s.right
  pub left : Number s.left
