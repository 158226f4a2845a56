-- What the clock call answers, and document 01's numbers for it: "What each call may refuse". Assumes nothing.
use Rattle.std.specs.Prelude.{ℕ, Bool, Result, Ok, Err}
use Rattle.apu_clock.specs.declared.clock.NoRoom.{NoRoom}

-- 0 stands for no refusal; 2: "this clock call makes a frame and, in any of the five lent f32 buffers, fewer than two numbers lie from the given place on"
abbrev pub refusal_of : Result Bool NoRoom → ℕ
refusal_of (Ok made) = 0
refusal_of (Err full) = 2

-- the number returned: always 0
abbrev pub returned_of : Result Bool NoRoom → ℕ
returned_of (Ok made) = 0
returned_of (Err full) = 0
