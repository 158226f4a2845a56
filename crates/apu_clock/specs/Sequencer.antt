-- The sequencer, from document 01, "Steps of a clock call". Assumes nothing.
use Rattle.std.specs.Prelude.{ℕ, ◌/◌, ◌%◌, Bool, true, not, ◌&&◌, ◌||◌, eqb, pos}
use Rattle.ground.specs.Pick.{pick}
use Rattle.channel_groups.specs.PulseGroups as pulse
use Rattle.channel_groups.specs.WaveGroups as wave
use Rattle.channel_groups.specs.NoiseGroups as noise
use Rattle.clocks.specs.Position.{next_of}
use Rattle.apu.specs.With.{with_pulse1, with_groups, with_bit, with_position}
use Rattle.apu.specs.declared.Apu.{Apu}

-- "divider bit 4 (5 in double speed)"
unfoldable pub bit_of : Bool → ℕ → Bool
bit_of double divider = pick double (eqb (divider / 32 % 2) 1) (eqb (divider / 16 % 2) 1)

-- "length": every group's
unfoldable pub lengths_clocked : Apu → Apu
lengths_clocked a =
    with_groups a (pulse.length_clocked a.pulse1) (pulse.length_clocked a.pulse2) (wave.length_clocked a.wave) (noise.length_clocked a.noise)

-- "pulse 1 sweep"
unfoldable pub sweep_clocked : Apu → Apu
sweep_clocked a = with_pulse1 a (pulse.sweep_clocked a.pulse1)

-- "envelopes": of all but the wave
unfoldable pub envelopes_clocked : Apu → Apu
envelopes_clocked a = with_groups a (pulse.envelope_clocked a.pulse1) (pulse.envelope_clocked a.pulse2) a.wave (noise.envelope_clocked a.noise)

-- "the sequencer position goes up: 1, 5 length; 3, 7 pulse 1 sweep, then length; 8 envelopes, then back to 0"
unfoldable pub advanced : Apu → Apu
advanced a =
    let next = next_of a.sequencer_position in
    pick (eqb next 8) (with_position (envelopes_clocked a) (pos 0))
    (pick (eqb next 1 || eqb next 5) (with_position (lengths_clocked a) (pos next))
    (pick (eqb next 3 || eqb next 7) (with_position (lengths_clocked (sweep_clocked a)) (pos next))
    (with_position a (pos next))))

-- whether any length counts: "A length clock, if enabled, takes 1 off"
unfoldable pub counts_of : Apu → Bool
counts_of a =
    (a.pulse1.length.counter_decrease_enable || a.pulse2.length.counter_decrease_enable)
    || (a.wave.length.counter_decrease_enable || a.noise.length.counter_decrease_enable)

-- "the sequencer position goes up" and that is all: to 2, 4 or 6, or where it is "1, 5 length" and no length counts
unfoldable pub idles_of : Apu → Bool
idles_of a =
    let next = next_of a.sequencer_position in
    pick (eqb next 2 || (eqb next 4 || eqb next 6)) true ((eqb next 1 || eqb next 5) && not (counts_of a))

-- "Store divider bit .. On a fall from the bit stored before"
unfoldable pub sequenced : Apu → Bool → ℕ → Apu
sequenced a double divider =
    let bit = bit_of double divider in
    pick (a.divider_sequencer_clock_bit && not bit) (advanced (with_bit a bit)) (with_bit a bit)

-- "Clock pulse 1, pulse 2, wave, noise"
unfoldable pub channels_clocked : Apu → Apu
channels_clocked a = with_groups a (pulse.clocked a.pulse1) (pulse.clocked a.pulse2) (wave.clocked a.wave) (noise.clocked a.noise)

-- "With power off, stop", else the channels and the sequencer
unfoldable pub finished : Apu → Bool → ℕ → Apu
finished a double divider = pick a.power (sequenced (channels_clocked a) double divider) a
