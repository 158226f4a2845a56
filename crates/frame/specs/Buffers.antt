-- The five lent buffers as one record, and what a frame leaves in them, from document 01, "Steps of a clock call". Assumes nothing.
use Rattle.std.specs.Prelude.{ℕ, ◌+◌, ◌≤◌, Bool, ◌&&◌, List, length, set, leb, Float}
use Rattle.frame.specs.declared.mixing.Sides.{Sides}
use Rattle.frame.specs.declared.mixing.Mix.{Mix}

-- the numbers in each of the five
pub record Buffers : Type 0 where
  pub pulse1 : List Float
  pub pulse2 : List Float
  pub wave : List Float
  pub noise : List Float
  pub all : List Float

abbrev pub five : List Float → List Float → List Float → List Float → List Float → Buffers
five p q w n a = record { pulse1 = p; pulse2 = q; wave = w; noise = n; all = a }

-- refusal 2 is where "fewer than two numbers lie from the given place on": here two do, in a buffer of n numbers
unfoldable pub room_in : ℕ → ℕ → Bool
room_in n place = leb (place + 2) n

-- in each of five, by their lengths
unfoldable pub room_in_all : ℕ → ℕ → ℕ → ℕ → ℕ → ℕ → Bool
room_in_all place p q w n a = room_in p place && (room_in q place && (room_in w place && (room_in n place && room_in a place)))

abbrev pub room_for : ℕ → Buffers → Bool
room_for place b = room_in_all place (length b.pulse1) (length b.pulse2) (length b.wave) (length b.noise) (length b.all)

-- the same as conditions, which the functions that write ask for
pub record Room (place : ℕ) (b : Buffers) : Type 0 where
  pub pulse1 : place + 2 ≤ length b.pulse1
  pub pulse2 : place + 2 ≤ length b.pulse2
  pub wave : place + 2 ≤ length b.wave
  pub noise : place + 2 ≤ length b.noise
  pub all : place + 2 ≤ length b.all

-- "two numbers, right then left, at the place .. and nowhere else"
unfoldable pub put : List Float → ℕ → Sides → List Float
put xs place s = set (set xs place s.right) (place + 1) s.left

-- "A frame writes two numbers .. in pulse1, pulse2, wave, noise and all"
unfoldable pub framed : Mix → ℕ → Buffers → Buffers
framed m place b = record {
  pulse1 = put b.pulse1 place m.pulse1;
  pulse2 = put b.pulse2 place m.pulse2;
  wave = put b.wave place m.wave;
  noise = put b.noise place m.noise;
  all = put b.all place m.all;
}
