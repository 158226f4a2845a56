-- Where each part of an image begins: "Byte 0 is version 1, then the length of the rest in two bytes, then every field in the Rust structures' order".
-- Quotes are request 2026-01's. Assumes nothing.
use Rattle.std.specs.Prelude.{ℕ}

abbrev pub version : ℕ
version = 1

abbrev pub rest_length : ℕ
rest_length = 161

-- "input length": with the three bytes before the rest
abbrev pub image_length : ℕ
image_length = 164

-- `Apu`'s fields: pulse1, pulse2, wave, noise, then those of the unit itself. Each part is as long as its own file says, and the next begins where it ends
-- (that they do, and the last one ends where the image does: `parts_follow` of image_laws)
abbrev pub pulse1_base : ℕ
pulse1_base = 3

abbrev pub pulse2_base : ℕ
pulse2_base = 44

abbrev pub wave_base : ℕ
wave_base = 85

-- `config`, the last field of the wave channel: its model byte
abbrev pub wave_model : ℕ
wave_model = 122

abbrev pub noise_base : ℕ
noise_base = 123

abbrev pub tail_base : ℕ
tail_base = 149

-- `config`, the unit's last field: its model byte, from the tail's base
abbrev pub model : ℕ
model = 14
