-- Request 2026-01's promises of images hold: by the laws of a whole image, and demand 3's from any unit in its ranges. Assumes nothing.
use mathlib.Core.Path.{◌≡◌, refl, sym, ◌∙◌, ap, subst}
use mathlib.Core.Bool.{Bool, true, false}
use mathlib.Core.List.{List}
use Prim.Native.Nat.{ℕ, ◌+◌}
use lib.ListN.{length}
use lib.Dec.{T, eqb, eqb→eq}
use lib.Ieee.Fits.{and_l, and_r, and_i, eq→eqb}
use Rattle.clocks.specs.Rows.{steps}
use Rattle.image_fields.specs.Bytes.{row}
use Rattle.apu.specs.Held.{Whole}
use Rattle.apu.proofs.Ranges.{new_held}
use Rattle.apu.proofs.Floats.{new_floats}
use Rattle.apu.specs.declared.Apu.{Apu}
use Rattle.apu_clock.specs.Uses.{step}
use Rattle.apu_clock.proofs.Demand3.{kept_conserved}
use Rattle.image.specs.Layout.{image_length, pulse1_base, pulse2_base, wave_base, noise_base}
use Rattle.image.specs.Image.{tail_bytes, unit_bytes, unit_at, unit_fits}
use Rattle.image.specs.Answers.{is_taken, taken_if, taken_of}
use Rattle.std.specs.Prelude.{Ok}
use Rattle.image.specs.declared.keep.Taken.{Taken}
use Rattle.image_laws.specs.Images.{Bytewise, with_frames, PartsFollow, Images}
use Rattle.image_laws.proofs.Numbers.{row_all}
use Rattle.image_laws.proofs.Pulse.{pulse_group_long}
use Rattle.image_laws.proofs.Wave.{wave_group_long}
use Rattle.image_laws.proofs.Noise.{noise_group_long}
use Rattle.image_laws.proofs.Whole.{Rows, unit_long, rows, unit_back, unit-fits, unit_whole, unit_same}

yes : (b : Bool) → b ≡ true → T b
yes b e = subst T (sym e) tt

is_yes : (b : Bool) → T b → b ≡ true
is_yes true t = refl
is_yes false t = absurd t

-- what the test says of an image
long : (s : List ℕ) → is_taken s ≡ true → length s ≡ image_length
unfolding is_taken
long s e = eqb→eq (length s) image_length (and_l (eqb (length s) image_length) (unit_fits s 0) (yes _ e))

fits : (s : List ℕ) → is_taken s ≡ true → T (unit_fits s 0)
unfolding is_taken
fits s e = and_r (eqb (length s) image_length) (unit_fits s 0) (yes _ e)

-- the unit beside the answer
taken_up : (s : List ℕ) → is_taken s ≡ true → taken_of s ≡ record { answer = Ok tt; apu = unit_at s 0 }
unfolding taken_of
taken_up s e = rw e

all_of : (s : List ℕ) → is_taken s ≡ true → row s 0 0 image_length ≡ s
all_of s e = ap (row s 0 0) (sym (long s e)) ∙ row_all s

-- a unit's own bytes
module _ (u : Apu) (k : Whole u) where
  own : Rows (unit_bytes u) 0 u
  own = rows (unit_bytes u) 0 u (ap (row (unit_bytes u) 0 0) (sym (unit_long u)) ∙ row_all (unit_bytes u))

  own_taken : is_taken (unit_bytes u) ≡ true
  unfolding is_taken
  own_taken =
      is_yes _
      (and_i (eqb (length (unit_bytes u)) image_length) (unit_fits (unit_bytes u) 0) (eq→eqb (unit_long u)) (unit-fits (unit_bytes u) 0 u k own))

  there_and_back : taken_of (unit_bytes u) ≡ record { answer = Ok tt; apu = u }
  there_and_back = taken_up (unit_bytes u) own_taken ∙ ap (λ (v : Apu). record { answer = Ok tt; apu = v }) (unit_back (unit_bytes u) 0 u k own)

back_and_there : (s : List ℕ) → Bytewise s → is_taken s ≡ true → unit_bytes (taken_of s).apu ≡ s
back_and_there s b e = ap (λ (r : Taken). unit_bytes r.apu) (taken_up s e) ∙ unit_same s 0 b (fits s e) ∙ all_of s e

whole_beside : (s : List ℕ) → Whole (taken_of s).apu
unfolding taken_of
whole_beside s = go (is_taken s) (λ e. unit_whole s 0 (fits s e))
  where
    go : (b : Bool) → (b ≡ true → Whole (unit_at s 0)) → Whole (taken_if b (unit_at s 0)).apu
    go true w = w refl
    go false w = record { held = new_held true; floats = new_floats true }

follow : (u : Apu) → PartsFollow u
unfolding tail_bytes
follow u =
    record {
      head = refl;
      pulse1 = ap (λ (n : ℕ). pulse1_base + n) (pulse_group_long u.pulse1);
      pulse2 = ap (λ (n : ℕ). pulse2_base + n) (pulse_group_long u.pulse2);
      wave = ap (λ (n : ℕ). wave_base + n) (wave_group_long u.wave);
      wave_model = refl;
      noise = ap (λ (n : ℕ). noise_base + n) (noise_group_long u.noise);
      tail = refl;
      rest = refl;
    }

pub images : Images
images =
    record {
      parts_follow = follow;
      write_read = there_and_back;
      read_write = back_and_there;
      taken_written = λ s b e. record { unit = (taken_of s).apu; whole = whole_beside s; is = sym (back_and_there s b e) };
      written_taken = λ s w. subst (λ (l : List ℕ). is_taken l ≡ true) (sym w.is) (own_taken w.unit w.whole);
      whole = whole_beside;
      answers = λ u k f uses. ap (λ (r : Taken). steps step uses (with_frames r.apu f)) (there_and_back u k);
      conserved = λ s f. let w = whole_beside s in kept_conserved (taken_of s).apu w.held w.floats f;
    }
