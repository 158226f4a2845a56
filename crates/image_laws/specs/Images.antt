-- What request 2026-01 promises of images, as one statement about the definitions. Quotes are its words. Assumes nothing.
use Rattle.std.specs.Prelude.{◌≡◌, true, List, ℕ, ◌+◌, ◌<◌, length, get_or, Ok}
use Rattle.clocks.specs.Rows.{steps}
use Rattle.apu.specs.Held.{Whole}
use Rattle.apu.specs.declared.Apu.{Apu}
use Rattle.apu_clock.specs.Uses.{Use, State, step}
use Rattle.apu_clock.specs.Demand3.{KeptConserved}
use Rattle.image_parts.specs.Pulse.{pulse_group_bytes}
use Rattle.image_parts.specs.Wave.{wave_group_bytes}
use Rattle.image_parts.specs.Noise.{noise_group_bytes}
use Rattle.image.specs.Layout.{rest_length, image_length, pulse1_base, pulse2_base, wave_base, wave_model, noise_base, tail_base}
use Rattle.image.specs.Image.{head_bytes, tail_bytes, unit_bytes}
use Rattle.image.specs.Answers.{is_taken, taken_of}

-- a list of bytes: each is below 256
abbrev pub Bytewise : List ℕ → Type 0
Bytewise s = (i : ℕ) → get_or s i 0 < 256

-- what some unit in its ranges writes
pub record Written (s : List ℕ) : Type 0 where
  pub unit : Apu
  pub whole : Whole unit
  pub is : s ≡ unit_bytes unit

-- the unit and the frames that it has made so far
abbrev pub with_frames : Apu → ℕ → State
with_frames u frames = record { apu = u; frames = frames }

-- each part begins where the one before it ends, the last one ends where the image does, and the length field says how many bytes follow it
pub record PartsFollow (u : Apu) : Type 0 where
  pub head : length head_bytes ≡ pulse1_base
  pub pulse1 : pulse1_base + length (pulse_group_bytes u.pulse1) ≡ pulse2_base
  pub pulse2 : pulse2_base + length (pulse_group_bytes u.pulse2) ≡ wave_base
  pub wave : wave_base + length (wave_group_bytes u.wave) ≡ wave_model
  pub wave_model : wave_model + 1 ≡ noise_base
  pub noise : noise_base + length (noise_group_bytes u.noise) ≡ tail_base
  pub tail : tail_base + length (tail_bytes u) ≡ image_length
  pub rest : length head_bytes + rest_length ≡ image_length

pub record Images : Type 0 where
  -- "then the length of the rest in two bytes, then every field in the Rust structures' order"
  pub parts_follow : (u : Apu) → PartsFollow u
  -- "Writing then reading gives the state"
  pub write_read : (u : Apu) → Whole u → taken_of (unit_bytes u) ≡ record { answer = Ok tt; apu = u }
  -- "reading then writing gives the bytes"
  pub read_write : (s : List ℕ) → Bytewise s → is_taken s ≡ true → unit_bytes (taken_of s).apu ≡ s
  -- "An image is taken exactly if .. all fields lie in document 01's ranges": it is what some unit in its ranges writes
  pub taken_written : (s : List ℕ) → Bytewise s → is_taken s ≡ true → Written s
  pub written_taken : (s : List ℕ) → Written s → is_taken s ≡ true
  -- the unit beside either answer is in its ranges
  pub whole : (s : List ℕ) → Whole (taken_of s).apu
  -- "A unit taken up answers as the saved one would": after any row of uses (it is the saved one: `write_read`)
  pub answers : (u : Apu) → Whole u → (frames : ℕ) (uses : List Use)
      → steps step uses (with_frames (taken_of (unit_bytes u)).apu frames) ≡ steps step uses (with_frames u frames)
  -- "For it demand 3 starts from the stored remainder and half-clock"
  pub conserved : (s : List ℕ) (frames : ℕ) → KeptConserved (taken_of s).apu frames
