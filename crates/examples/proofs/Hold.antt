-- The marked examples hold: long runs by demand 3's formula, all else by computing the definitions. Assumes nothing.
use mathlib.Core.Path.{◌≡◌, refl, ◌∙◌}
use mathlib.Core.Bool.{Bool, true, false}
use mathlib.Core.List.{List}
use Prim.Native.Nat.{ℕ, ◌*◌, ◌/◌, ◌^◌}
use lib.Ieee.{of_bits, to_bits, of_int, add, sub, mul, div}
use Rattle.ground.specs.Pick.{pick}
use Rattle.ground.specs.Num.{zero_as_eight}
use Rattle.clocks.specs.Calls.{K}
use Rattle.apu_clock.specs.Clocking.{lent}
use Rattle.apu_clock.proofs.Demand3.{frames_of_calls}
use Rattle.frame.specs.Buffers.{room_in, room_in_all, room_for}
use Rattle.frame.specs.Converter as converter
use Rattle.frame.specs.Mixing.{side_of}
use Rattle.channel_groups.specs.PulseGroups.{byte_of}
use Rattle.apu.specs.Start.{fresh, skipped}
use Rattle.apu.specs.Registers.{read_of, byte_at, by_offset, status_byte}
use Rattle.channel_pulse.specs.Sweep as sweep
use Rattle.channel_pulse.specs.Pulse as pulse
use Rattle.channel_wave.specs.Wave as wave
use Rattle.channel_noise.specs.Noise as noise
use Rattle.examples.specs.Marked.{Row, AllHold, end, ◌and◌, frames_after, four_rows, marked}

-- frames by demand 3, of each constructor and model
frames : (skip dmg : Bool) (n : ℕ) → frames_after skip dmg n ≡ n * 2 ^ 48 / K
unfolding room_in_all room_in
frames skip dmg n = frames_of_calls skip dmg 0 0 lent room n
  where
    room : room_for 0 lent ≡ true
    room = refl

-- the four rows of a number of calls
four : (number n said : ℕ) {rows : List Row} → n * 2 ^ 48 / K ≡ said → AllHold rows → AllHold (four_rows number n said rows)
four number n said e rows = given false false and given false true and given true false and given true true and rows
  where
    given : (skip dmg : Bool) → frames_after skip dmg n ≡ said
    given skip dmg = frames skip dmg n ∙ e

pub marked_hold : AllHold marked
unfolding pick zero_as_eight fresh skipped read_of byte_at by_offset status_byte byte_of
    pulse.enveloped pulse.sweep_written pulse.triggered pulse.sweep_clocked
    sweep.triggered sweep.sweep_started sweep.checked sweep.calculated sweep.target_of sweep.clocked sweep.expired sweep.reloaded sweep.updated sweep.stored
    noise.reload_of noise.divisor_of noise.stepped_register noise.feedback_of noise.put_bit wave.triggered wave.buffer_at_trigger wave.rewritten wave.four_from
    converter.stepped side_of to_bits div sub mul add of_int of_bits
marked_hold =
    four 1 23 0 refl
    (four 1 24 1 refl
    (four 1 47 1 refl
    (four 1 48 2 refl
    (four 2 262144 11024 refl
    (four 2 262145 11025 refl
    (four 3 1048576 44099 refl
    (refl and refl and refl and refl and refl and refl and refl and refl and refl and refl
    and refl and refl
    and refl and refl and refl
    and refl and refl and refl and refl and refl
    and refl and refl and refl
    and refl and refl and refl
    and refl
    and end)))))))
