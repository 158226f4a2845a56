-- The sequencer's position as a byte, and the shift beside the wave's volume: the bytes that pass the tests are those of the ranges. Assumes nothing.
use Prim.Native.Nat.{ℕ, zero, suc, ◌≤◌}
use mathlib.Core.Path.{◌≡◌, refl, sym, ap, subst}
use mathlib.Core.Logic.{◌⊎◌, inl, inr}
use mathlib.Core.Bool.{Bool, true, false, ◌||◌}
use native.Mathlib.Omega.{arith}
use lib.Dec.{T, eqb, leb, eqb→eq, leb→le, le→leb}
use lib.IntN.{ℤ, pos, negsuc}
use borrow.Author.Tests.{le-leb}
use Rattle.ground.specs.Pick.{pick}
use Rattle.ground.proofs.Cases.{pick_true}
use Rattle.clocks.specs.Position.{PositionHeld}
use Rattle.channel_wave.specs.Wave.{shift_of, ShiftHeld}
use Rattle.image_fields.specs.Codes.{position_byte, position_of, position_test, shift_fits}

-- ---- the sequencer's position
position_read : (n : ℕ) → n ≤ 7 → position_of n ≡ pos n
unfolding position_of
position_read n h = pick_true (leb n 7) (pos n) (negsuc 0) (le-leb n 7 h)

pub position_back : (z : ℤ) → PositionHeld z → position_of (position_byte z) ≡ z
unfolding position_of pick
position_back (pos n) h = position_read n h
position_back (negsuc zero) h = refl
position_back (negsuc (suc n)) h = absurd (omega arith)

-- what holds at 0 to 7 and at FF holds at each byte that passes the test
by_test : (P : ℕ → Type 0) → ((n : ℕ) → n ≤ 7 → P n) → P 255 → (n : ℕ) → T (position_test n) → P n
by_test P low high n t = go (leb n 7) (leb→le n 7) t
  where
    go : (b : Bool) → (T b → n ≤ 7) → T (b || eqb n 255) → P n
    go true l t = low n (l tt)
    go false l t = subst P (sym (eqb→eq n 255 t)) high

pub position_same : (n : ℕ) → T (position_test n) → position_byte (position_of n) ≡ n
unfolding position_of pick
position_same = by_test (λ (n : ℕ). position_byte (position_of n) ≡ n) (λ n h. ap position_byte (position_read n h)) refl

pub position_held : (n : ℕ) → T (position_test n) → PositionHeld (position_of n)
unfolding position_of pick
position_held = by_test (λ (n : ℕ). PositionHeld (position_of n)) (λ n h. subst PositionHeld (sym (position_read n h)) h) refl

pub position_fits : (z : ℤ) → PositionHeld z → T (position_test (position_byte z))
position_fits (pos n) h = first (leb n 7) (eqb n 255) (le→leb n 7 h)
  where
    first : (a b : Bool) → T a → T (a || b)
    first true b t = tt
    first false b t = absurd t
position_fits (negsuc n) h = tt

-- ---- the wave shift: the four rows of the test, by volume; a row of another volume lets nothing pass
at_none : (a b : Bool) → T ((((a || b) || false) || false) || false) → T a ⊎ T b
at_none true b t = inl tt
at_none false true t = inr tt
at_none false false t = absurd t

at_one : (b : Bool) → T ((b || false) || false) → T b
at_one true t = tt
at_one false t = absurd t

at_two : (b : Bool) → T (b || false) → T b
at_two true t = tt
at_two false t = absurd t

pub shift_held : (volume shift : ℕ) → volume ≤ 3 → T (shift_fits volume shift) → ShiftHeld volume shift
unfolding shift_fits shift_of pick
shift_held zero shift h t =
    elim (at_none (eqb shift 4) (eqb shift 0) t) [
      | inl four ↦ inl (eqb→eq shift 4 four)
      | inr none ↦ inr (refl, eqb→eq shift 0 none)
    ]
shift_held (suc zero) shift h t = inl (eqb→eq shift 0 (at_one (eqb shift 0) t))
shift_held (suc (suc zero)) shift h t = inl (eqb→eq shift 1 (at_two (eqb shift 1) t))
shift_held (suc (suc (suc zero))) shift h t = inl (eqb→eq shift 2 t)
shift_held (suc (suc (suc (suc v)))) shift h t = absurd (omega arith)

own_fits : (volume : ℕ) → volume ≤ 3 → T (shift_fits volume (shift_of volume))
unfolding shift_fits shift_of pick
own_fits zero h = tt
own_fits (suc zero) h = tt
own_fits (suc (suc zero)) h = tt
own_fits (suc (suc (suc zero))) h = tt
own_fits (suc (suc (suc (suc v)))) h = absurd (omega arith)

pub shift_fits_lem : (volume shift : ℕ) → volume ≤ 3 → ShiftHeld volume shift → T (shift_fits volume shift)
unfolding shift_fits
shift_fits_lem volume shift h (inl e) = subst (λ (i : ℕ). T (shift_fits volume i)) (sym e) (own_fits volume h)
shift_fits_lem volume shift h (inr none) = rw (none.0, none.1) tt
