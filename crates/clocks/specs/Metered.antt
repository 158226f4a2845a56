-- The meter: frames and remainder of many clock calls, by whole numbers. Assumes nothing.
use Rattle.std.specs.Prelude.{◌≡◌, Bool, true, false, List, ℕ, ◌+◌, ◌-◌, ◌*◌, ◌/◌, ◌%◌, ◌^◌, ◌<◌}
use Rattle.std.specs.Float.{binary64}
use Rattle.std.specs.Float.Ieee.Exact.{HasValue}
use Rattle.ground.specs.Units.{units_of}
use Rattle.clocks.specs.declared.meter.Meter.{Meter}
use Rattle.clocks.specs.declared.meter.Metered.{Metered}
use Rattle.clocks.specs.Calls.{Call, normals, doubles, Clocks, K}

-- a meter's ranges: half-clocks 0..1, and a rest of fewer units than N has, which are M
pub record Held (M : ℕ) (m : Meter) : Type 0 where
  pub half : m.half < 2
  pub rest : m.rest < M

-- that of a fresh unit
abbrev pub fresh : Meter
fresh = record { half = 0; rest = 0 }

-- the half-clocks of n clock calls, at double speed or not
abbrev pub gained : Bool → ℕ → ℕ
gained true n = n
gained false n = n * 2

-- n clock calls at one speed, with N as M units of 2 ^ -u: every two half-clocks are a working clock, which adds 2 ^ u units; every M units are a frame
abbrev pub metered : ℕ → ℕ → Meter → Bool → ℕ → Metered
metered u M m double n =
    let halves = m.half + gained double n in
    let total = m.rest + halves / 2 * 2 ^ u in
    record { frames = total / M; meter = record { half = halves % 2; rest = total % M } }

-- the clocks that a meter stands for, with so many frames made
abbrev pub clocks_of : ℕ → Meter → ℕ → Clocks
clocks_of u m frames = record { half = m.half; counter = units_of binary64 u m.rest; frames = frames }

-- the frames of so many half-clocks from a meter's half-clock and rest, with N as M units of 2 ^ -u; document 02: "For it demand 3 starts from the stored
-- remainder and half-clock"
unfoldable pub frames_from : ℕ → ℕ → Meter → ℕ → ℕ
frames_from u M m halves = (m.rest + (m.half + halves) / 2 * 2 ^ u) / M

-- those of a fresh unit (the same from its meter: `frames_fresh` of proofs/Totals.antt), by demand 3: "exactly W times 2^48 divided by K, rounded down"
unfoldable pub frames_of : ℕ → ℕ
frames_of halves = halves / 2 * 2 ^ 48 / K

-- the working clocks of a row of calls from h half-clocks on: demand 3's W, a normal call being two half-clocks and a double one
abbrev pub working_from : ℕ → List Call → ℕ
working_from h cs = (h + 2 * normals cs + doubles cs) / 2

-- the units that there were and those of the working clocks
abbrev pub units_from : ℕ → Meter → List Call → ℕ
units_from u start cs = start.rest + working_from start.half cs * 2 ^ u

-- Demand 3 of a row of calls that starts from a stored half-clock and remainder, after `before` frames, and what it came to: "The number of frames made is
-- exactly W times 2^48 divided by K, rounded down .. The kept f64 remainder, in units of 2^-48, is exactly W times 2^48 less frames times K", with what was
-- stored added on
pub record ConservedFrom (u M : ℕ) (start : Meter) (before : ℕ) (cs : List Call) (m : Clocks) : Type 0 where
  pub frames : m.frames ≡ before + units_from u start cs / M
  pub rest : HasValue m.counter false (units_from u start cs - (m.frames - before) * M) (2 ^ u)
  pub half : m.half ≡ (start.half + doubles cs) % 2
