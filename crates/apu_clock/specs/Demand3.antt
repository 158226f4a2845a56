-- Demand 3, that clocks are conserved, as one statement about the sound unit. Quotes are its words, but those marked document 02. Assumes nothing.
use Rattle.std.specs.Prelude.{◌≡◌, Bool, false, List, ℕ, ◌+◌, ◌*◌, ◌^◌}
use Rattle.std.specs.Float.Ieee.Exact.{HasValue}
use Rattle.clocks.specs.Calls.{other, refused, K, Conserved}
use Rattle.clocks.specs.Distance.{units_in}
use Rattle.clocks.specs.Metered.{ConservedFrom}
use Rattle.clocks.specs.declared.meter.Meter.{Meter}
use Rattle.clocks.specs.Rows.{steps, kinds}
use Rattle.apu.specs.Start.{constructed}
use Rattle.apu.specs.declared.Apu.{Apu}
use Rattle.apu_clock.specs.Uses.{Use, State, step, kind, see}

-- "a fresh unit of either constructor", `new_skip_boot_rom` or `new`, DMG or not; it has made no frame
abbrev pub start_of : Bool → Bool → State
start_of skip dmg = record { apu = constructed skip dmg; frames = 0 }

pub record Demand3 : Type 0 where
  -- "where 11025 times K is 2^66 + 1511"
  pub number : 11025 * K ≡ 2 ^ 66 + 1511
  -- "From a fresh unit of either constructor, over any sequence of calls": frames, kept remainder and half-clock by the formula, which is `Conserved`
  pub conserved : (skip dmg : Bool) (uses : List Use) → Conserved 48 K (kinds kind step uses (start_of skip dmg)) (see (steps step uses (start_of skip dmg)))
  -- "No register write, read, power change or refused call alters either": what is no accepted clock call, in whichever state
  pub others : (u : Use) (s : State) → kind u s ≡ other → see (step u s) ≡ see s
  pub refusals : (u : Use) (s : State) → kind u s ≡ refused → see (step u s) ≡ see s

-- the half-clock and the remainder that a unit has stored, the remainder in units of 2 ^ -48
abbrev pub meter_of : Apu → Meter
meter_of a = record { half = a.clocks_counter; rest = units_in a.sample_counter }

-- document 02: "A unit taken up answers as the saved one would. For it demand 3 starts from the stored remainder and half-clock": of a unit that had made
-- `before` frames, with h half-clocks and R units stored. W is (h + 2a + b)/2, halves dropped; the frames are R + W times 2^48 divided by K, rounded down, and
-- the kept remainder is R + W times 2^48 less frames times K. With h and R 0 that is `Demand3`'s.
pub record KeptConserved (a : Apu) (before : ℕ) : Type 0 where
  pub stored : HasValue a.sample_counter false (meter_of a).rest (2 ^ 48)
  pub conserved : (uses : List Use)
      → let s : State = record { apu = a; frames = before } in ConservedFrom 48 K (meter_of a) before (kinds kind step uses s) (see (steps step uses s))
