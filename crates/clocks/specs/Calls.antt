-- Calls of the sound unit as its clocks see them, and what a row of them makes. Quotes marked demand 3 are its words, not document 01's. Assumes nothing.
use Rattle.std.specs.Prelude.{◌≡◌, Bool, true, false, List, [], ◌∷◌, ℕ, zero, suc, ◌+◌, ◌-◌, ◌*◌, ◌/◌, ◌%◌, ◌^◌, ltb, Float, pos}
use Rattle.std.specs.Float.{fin}
use Rattle.std.specs.Float.Ieee.Exact.{HasValue}
use Rattle.clocks.specs.Counter.{tick_by}

-- a clock call that is accepted, at normal or double speed; any other call that is accepted (a write, a read, a power change); a call that is refused
pub data Call : Type 0 where
  normal double other refused : Call

-- an accepted clock call, by whether it is at double speed
abbrev pub at_speed : Bool → Call
at_speed true = double
at_speed false = normal

-- "Normal speed adds 2 half-clocks, double speed 1": by whether it is double
abbrev pub half_clocks_of : Bool → ℕ
half_clocks_of true = 1
half_clocks_of false = 2

-- what a unit keeps of its clocks, and the frames that it has made
pub record Clocks : Type 0 where
  pub half : ℕ
  pub counter : Float
  pub frames : ℕ

-- those of a fresh unit of either constructor: half-clocks 0, sample counter 0.0, no frames
abbrev pub fresh : Clocks
fresh = record { half = 0; counter = fin false 0 (pos 0); frames = 0 }

-- one frame more, if one is made
abbrev pub more : Bool → ℕ → ℕ
more true frames = frames + 1
more false frames = frames

-- "Below 2, the call ends; else 2 are taken off and a working clock follows": by whether `half` is below 2; n is N
abbrev pub after : Bool → Float → ℕ → Clocks → Clocks
after true n half m = record { half = half; counter = m.counter; frames = m.frames }
after false n half m = record { half = half - 2; counter = (tick_by n m.counter).counter; frames = more (tick_by n m.counter).made m.frames }

-- a clock call that adds so many half-clocks
abbrev pub clocked : Float → ℕ → Clocks → Clocks
clocked n halves m = after (ltb (m.half + halves) 2) n (m.half + halves) m

-- demand 3: "No register write, read, power change or refused call alters either"
abbrev pub call : Float → Call → Clocks → Clocks
call n normal m = clocked n 2 m
call n double m = clocked n 1 m
call n other m = m
call n refused m = m

-- a row of calls, the first one first
unfoldable pub run : Float → List Call → Clocks → Clocks
run n [] m = m
run n (c ∷ cs) m = run n cs (call n c m)

-- whether a call is an accepted clock call at normal speed, at double speed, as a number
abbrev pub one_if_normal : Call → ℕ
one_if_normal normal = 1
one_if_normal double = 0
one_if_normal other = 0
one_if_normal refused = 0

abbrev pub one_if_double : Call → ℕ
one_if_double normal = 0
one_if_double double = 1
one_if_double other = 0
one_if_double refused = 0

-- demand 3: "let a be the accepted clock calls at normal speed"
unfoldable pub normals : List Call → ℕ
normals [] = 0
normals (c ∷ cs) = one_if_normal c + normals cs

-- demand 3: "and b those at double speed"
unfoldable pub doubles : List Call → ℕ
doubles [] = 0
doubles (c ∷ cs) = one_if_double c + doubles cs

-- demand 3: "W = a + b/2, halves dropped"
abbrev pub working_clocks : List Call → ℕ
working_clocks cs = normals cs + doubles cs / 2

-- demand 3: "11025 times K is 2^66 + 1511"
abbrev pub K : ℕ
K = (2 ^ 66 + 1511) / 11025

-- Demand 3 of a row of calls and what it came to, with N as M units of 2 ^ -u (at 44100 u is 48 and M is K): "The number of frames made is exactly W times
-- 2^48 divided by K, rounded down .. The kept f64 remainder, in units of 2^-48, is exactly W times 2^48 less frames times K"; `HasValue x false a b` is that
-- x is a / b
pub record Conserved (u M : ℕ) (cs : List Call) (m : Clocks) : Type 0 where
  pub frames : m.frames ≡ working_clocks cs * 2 ^ u / M
  pub rest : HasValue m.counter false (working_clocks cs * 2 ^ u - m.frames * M) (2 ^ u)
  pub half : m.half ≡ doubles cs % 2

-- the same call n times
unfoldable pub times : {C : Type 0} → ℕ → C → List C
times zero c = []
times (suc n) c = c ∷ times n c
