-- The clock call, from document 01, "Steps of a clock call". Assumes nothing.
use Rattle.std.specs.Prelude.{ℕ, ◌+◌, ◌-◌, Bool, true, false, not, ◌&&◌, ltb, List, [], ◌∷◌, Float, Result, Ok, Err}
use Rattle.std.specs.Float.{binary32}
use Rattle.std.specs.Float.Ieee.{of_bits}
use Rattle.ground.specs.Pick.{pick}
use Rattle.clocks.specs.Counter.{every_at, tick_by}
use Rattle.clocks.specs.Calls.{half_clocks_of}
use Rattle.frame.specs.Mixing.{mixed}
use Rattle.frame.specs.Buffers.{Buffers, five, room_for, framed}
use Rattle.channel_groups.specs.PulseGroups as pulse
use Rattle.channel_groups.specs.WaveGroups as wave
use Rattle.channel_groups.specs.NoiseGroups as noise
use Rattle.apu.specs.With.{with_groups, with_clocks}
use Rattle.apu_clock.specs.Sequencer.{finished}
use Rattle.apu.specs.declared.Apu.{Apu}
use Rattle.apu_clock.specs.declared.clock.Framed.{Framed}
use Rattle.apu_clock.specs.declared.clock.Clocked.{Clocked}
use Rattle.apu_clock.specs.declared.clock.NoRoom.{NoRoom}

-- a frame: every converter steps, and the ten numbers
unfoldable pub pushed : Apu → Framed
pushed a =
    let p = pulse.sounded a.pulse1 a.channels_control a.channels_selection 0 in
    let q = pulse.sounded a.pulse2 a.channels_control a.channels_selection 1 in
    let w = wave.sounded a.wave a.channels_control a.channels_selection in
    let n = noise.sounded a.noise a.channels_control a.channels_selection in
    record {
      apu = with_groups a p.group q.group w.group n.group;
      mix = mixed p.sides q.sides w.sides n.sides;
    }

-- all that a clock call leaves: its answer (whether it made a frame, or the refusal) with the unit, and the five buffers
pub record After : Type 0 where
  pub clocked : Clocked
  pub buffers : Buffers

abbrev pub after : Clocked → Buffers → After
after r b = record { clocked = r; buffers = b }

abbrev pub answered : Result Bool NoRoom → Apu → Buffers → After
answered answer a b = after (record { answer = answer; apu = a }) b

-- what follows the sample counter, with `counter` and `half` kept
unfoldable pub passed : Apu → Float → ℕ → Bool → ℕ → Apu
passed a counter half double divider = finished (with_clocks a counter half) double divider

-- "At or above N .. make a frame and subtract N": `counter` is what is left
unfoldable pub frame_of : Apu → Float → ℕ → Bool → ℕ → Framed
frame_of a counter half double divider = record { apu = passed (pushed a).apu counter half double divider; mix = (pushed a).mix }

-- a frame that is due: refused where a buffer has no room, with unit and buffers untouched
unfoldable pub frame_due : Apu → Float → ℕ → Bool → ℕ → ℕ → Buffers → After
frame_due a counter half double divider place b =
    let f = frame_of a counter half double divider in
    pick (room_for place b) (answered (Ok true) f.apu (framed f.mix place b)) (answered (Err (record {})) a b)

-- "a working clock follows": `half` half-clocks are left
unfoldable pub worked : Apu → ℕ → Bool → ℕ → ℕ → Buffers → After
worked a half double divider place b =
    let ticked = tick_by (every_at 44100) a.sample_counter in
    pick ticked.made
    (frame_due a ticked.counter half double divider place b)
    (answered (Ok false) (passed a ticked.counter half double divider) b)

-- "Normal speed adds 2 half-clocks, double speed 1. Below 2, the call ends; else 2 are taken off and a working clock follows"
unfoldable pub clock_of : Apu → Bool → ℕ → ℕ → Buffers → After
clock_of a double divider place b =
    let half = a.clocks_counter + half_clocks_of double in
    pick (ltb half 2) (answered (Ok false) (with_clocks a a.sample_counter half) b) (worked a (half - 2) double divider place b)

-- whether this call makes a frame: a working clock follows, and its counter comes to N
abbrev pub makes_frame : Apu → Bool → Bool
makes_frame a double = not (ltb (a.clocks_counter + half_clocks_of double) 2) && (tick_by (every_at 44100) a.sample_counter).made

-- refusal 2: "this clock call makes a frame and, in any of the five lent f32 buffers, fewer than two numbers lie from the given place on"
abbrev pub no_room : Apu → Bool → ℕ → Buffers → Bool
no_room a double place b = makes_frame a double && not (room_for place b)

-- five buffers with room for one frame, at place 0: what examples and players of a log lend to a call
abbrev two : List Float
two = of_bits binary32 0 ∷ of_bits binary32 0 ∷ []

abbrev pub lent : Buffers
lent = five two two two two two
