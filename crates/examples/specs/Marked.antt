-- The ten marked examples of document 01, in its order and numbering, as one list with a single statement over it. Assumes nothing.
use Rattle.std.specs.Prelude.{◌≡◌, Bool, true, false, List, [], ◌∷◌, ℕ, ◌+◌, ◌*◌}
use Rattle.std.specs.Float.{binary32}
use Rattle.std.specs.Float.Ieee.{to_bits}
use Rattle.clocks.specs.Calls.{times}
use Rattle.clocks.specs.Rows.{steps}
use Rattle.apu_clock.specs.Clocking.{lent}
use Rattle.apu_clock.specs.Uses.{clock, step}
use Rattle.apu_clock.specs.Demand3.{start_of}
use Rattle.frame.specs.Converter as converter
use Rattle.frame.specs.Mixing.{side_of}
use Rattle.apu.specs.Start.{skipped}
use Rattle.apu.specs.Registers.{read_of}
use Rattle.apu.specs.Answers.{returned_of_read}
use Rattle.channel_pulse.specs.Pulse as pulse
use Rattle.channel_pulse.specs.With as pulse_with
use Rattle.channel_wave.specs.Wave as wave
use Rattle.channel_wave.specs.With as wave_with
use Rattle.channel_noise.specs.Noise as noise
use Rattle.channel_pulse.specs.declared.pulse_channel.PulseChannel.{PulseChannel}

-- the example's number, what the rules give, and what the document says; yes and no are 1 and 0
pub record Row : Type 0 where
  pub number : ℕ
  pub given : ℕ
  pub said : ℕ

abbrev row : ℕ → ℕ → ℕ → Row
row number given said = record { number = number; given = given; said = said }

-- the single statement: each row's rules give what the document says
infixr 4 ◌and◌
pub data AllHold : List Row → Type 0 where
  end : AllHold []
  ◌and◌ : {r : Row} {rs : List Row} → r.given ≡ r.said → AllHold rs → AllHold (r ∷ rs)

-- ---- what the examples speak of

-- 1 to 3: the frames that a unit of either constructor has made after n clock calls at normal speed, a working clock each, with room for a frame in each buffer
abbrev pub frames_after : Bool → Bool → ℕ → ℕ
frames_after skip dmg n = (steps step (times n (clock false 0 0 lent)) (start_of skip dmg)).frames

-- the same of both constructors and both models
abbrev pub four_rows : ℕ → ℕ → ℕ → List Row → List Row
four_rows number n said rows =
    row number (frames_after false false n) said
    ∷ row number (frames_after false true n) said
    ∷ row number (frames_after true false n) said
    ∷ row number (frames_after true true n) said
    ∷ rows

-- 4: what a unit of `new_skip_boot_rom`, on DMG or not, reads at an address
abbrev booted : Bool → ℕ → ℕ
booted dmg addr = returned_of_read (read_of (skipped dmg) addr)

-- 5 and 6: a fresh pulse with its DAC on, FF10 and a frequency written, then triggered; whether it is on
abbrev triggered_with : ℕ → ℕ → PulseChannel
triggered_with ff10 frequency = pulse.triggered (pulse_with.with_frequency (pulse.sweep_written (pulse.enveloped pulse.fresh 0xF0) ff10) frequency)

abbrev on : PulseChannel → ℕ
on p = as_number p.channel_enabled
  where
    as_number : Bool → ℕ
    as_number true = 1
    as_number false = 0

-- 7: the reload after a write of FF22
abbrev reload : ℕ → ℕ
reload ff22 = noise.reload_of (noise.written noise.fresh ff22)

-- 9: wave RAM with byte i as 16 + i, after a DMG trigger with the timer at 0; all sixteen bytes as one number, byte 0 highest
abbrev bytes : List ℕ
bytes = 0x10 ∷ 0x11 ∷ 0x12 ∷ 0x13 ∷ 0x14 ∷ 0x15 ∷ 0x16 ∷ 0x17 ∷ 0x18 ∷ 0x19 ∷ 0x1A ∷ 0x1B ∷ 0x1C ∷ 0x1D ∷ 0x1E ∷ 0x1F ∷ []

abbrev ram : ℕ → ℕ
ram position = after 0 (wave.triggered (wave_with.with_position (wave_with.with_buffer wave.fresh bytes) position) true).buffer
  where
    after : ℕ → List ℕ → ℕ
    after n [] = n
    after n (x ∷ xs) = after (n * 256 + x) xs

-- 10: a channel's sample from capacitor 0, as a pattern
abbrev sample : ℕ → ℕ → ℕ
sample output volume = to_bits binary32 (side_of (converter.stepped converter.fresh output false).dac_out volume true)

-- ---- the list
abbrev pub marked : List Row
marked =
    -- 1. "23 working clocks, no frame; 24, one; 47, one; 48, two."
    four_rows 1 23 0
    (four_rows 1 24 1
    (four_rows 1 47 1
    (four_rows 1 48 2
    -- 2. "262,144: 11,024 frames; 262,145: 11,025."
    (four_rows 2 262144 11024
    (four_rows 2 262145 11025
    -- 3. "1,048,576: 44,099."
    (four_rows 3 1048576 44099
    -- 4. "`new_skip_boot_rom`: FF11 BF, FF12 F3, FF24 77, FF25 F3, FF26 F1."
    (row 4 (booted true 0xFF11) 0xBF
    ∷ row 4 (booted true 0xFF12) 0xF3
    ∷ row 4 (booted true 0xFF24) 0x77
    ∷ row 4 (booted true 0xFF25) 0xF3
    ∷ row 4 (booted true 0xFF26) 0xF1
    ∷ row 4 (booted false 0xFF11) 0xBF
    ∷ row 4 (booted false 0xFF12) 0xF3
    ∷ row 4 (booted false 0xFF24) 0x77
    ∷ row 4 (booted false 0xFF25) 0xF3
    ∷ row 4 (booted false 0xFF26) 0xF1
    -- 5. "Trigger with DAC on, add, shift 1: 1365 stays on, 1366 goes off."
    ∷ row 5 (on (triggered_with 0x01 1365)) 1
    ∷ row 5 (on (triggered_with 0x01 1366)) 0
    -- 6. "FF10 11, frequency 1024: trigger stays on; first sweep clock leaves 1536, off."
    ∷ row 6 (on (triggered_with 0x11 1024)) 1
    ∷ row 6 (pulse.sweep_clocked (triggered_with 0x11 1024)).frequency 1536
    ∷ row 6 (on (pulse.sweep_clocked (triggered_with 0x11 1024))) 0
    -- 7. "FF22 00: reload 2; 07: 28; C0: 8192; D0: 0; A7: 12288."
    ∷ row 7 (reload 0x00) 2
    ∷ row 7 (reload 0x07) 28
    ∷ row 7 (reload 0xC0) 8192
    ∷ row 7 (reload 0xD0) 0
    ∷ row 7 (reload 0xA7) 12288
    -- 8. "Noise 7FFF: 3FFF; in 7-bit mode 3FBF; 4001 in it: 6040."
    ∷ row 8 (noise.stepped_register 0x7FFF false) 0x3FFF
    ∷ row 8 (noise.stepped_register 0x7FFF true) 0x3FBF
    ∷ row 8 (noise.stepped_register 0x4001 true) 0x6040
    -- 9. "DMG wave trigger, timer 0: position 6, byte 0 from byte 3; 9, bytes 0..3 from 4..7; 31, none differ."
    ∷ row 9 (ram 6) 0x1311_1213_1415_1617_1819_1A1B_1C1D_1E1F
    ∷ row 9 (ram 9) 0x1415_1617_1415_1617_1819_1A1B_1C1D_1E1F
    ∷ row 9 (ram 31) 0x1011_1213_1415_1617_1819_1A1B_1C1D_1E1F
    -- 10. "Output 15, capacitor 0, volume 7: channel sample 3E4CCCCD."
    ∷ row 10 (sample 15 7) 0x3E4C_CCCD
    ∷ [])))))))
