-- What a run hands back, and the units that it starts from. For the code and its proof alone: what working clocks do is said in Working.antt. Assumes nothing.
use Rattle.std.specs.Prelude.{ℕ, ◌+◌, Bool, ◌&&◌, Float, length}
use Rattle.std.specs.Float.{binary64}
use Rattle.ground.specs.Iterate.{iterate}
use Rattle.ground.specs.Units.{units_of}
use Rattle.channel_pulse.specs.Pulse as pulse
use Rattle.channel_wave.specs.Wave as wave
use Rattle.channel_noise.specs.Noise as noise
use Rattle.apu.specs.declared.Apu.{Apu}
use Rattle.apu_run.specs.Working.{Take}
use Rattle.apu_run.specs.Phases.{settings_of, phases_of, converters_of, phases_clocked, put_back}
use Rattle.apu_run.specs.declared.phases.Phases.{Phases}
use Rattle.apu_run.specs.declared.phases.Converters.{Converters}
use Rattle.apu_run.specs.declared.frames.Parts.{Parts}

abbrev pub handed_back : Phases → Converters → Float → ℕ → Parts
handed_back phases converters counter at = record { phases = phases; converters = converters; counter = counter; at = at }

-- what was moved, and the place after the bytes (put back into the unit it is the unit after the run: `put_ran` of proofs/Rans.antt)
abbrev pub parts_of : Take → ℕ → Parts
parts_of t start = handed_back (phases_of t.apu) (converters_of t.apu) t.apu.sample_counter (start + length t.bytes)

-- a unit with its sample counter at so many units of 2^-48 and its channels so many clocks on
abbrev pub behind : Apu → ℕ → ℕ → Apu
behind a units clocks = put_back a (iterate clocks (phases_clocked (settings_of a)) (phases_of a)) (converters_of a) (units_of binary64 48 units)

-- "Muted is: channel off, or (not wave) volume 0": all four
abbrev pub silent_of : Apu → Bool
silent_of a =
    pulse.muted_of a.pulse1.channel && (pulse.muted_of a.pulse2.channel && (wave.muted_of a.wave.channel && noise.muted_of a.noise.channel))
