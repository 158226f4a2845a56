-- A step of the 15-bit register in plain numbers, and what a loop over steps keeps. Assumes nothing.
use mathlib.Core.Path.{◌≡◌, sym, ap, ap₂, ◌∙◌}
use mathlib.Core.Bool.{Bool, true, false, not}
use Prim.Native.Nat.{ℕ, ◌+◌, ◌*◌, ◌/◌, ◌%◌, ◌≤◌}
use native.Mathlib.Omega.{arith}
use lib.Dec.{eqb}
use borrow.Author.Tests.{eqb-true, eqb-false, not-true, not-false}
use Rattle.ground.specs.Pick.{pick}
use Rattle.ground.specs.Iterate.{iterate}
use Rattle.ground.proofs.Cases.{pick_holds}
use Rattle.ground.proofs.Timers.{iterate_add}
use Rattle.channel_noise.specs.Noise.{feedback_of, put_bit, stepped_register}
use Rattle.channel_noise.proofs.Ranges.{feedback_le}

-- ---- the bit that a step feeds back: the parity of the lowest two
pub feedback_sum : (r : ℕ) → feedback_of r ≡ (r + r / 2) % 2
unfolding feedback_of
feedback_sum r =
    pick_holds (λ (x : ℕ). x ≡ (r + r / 2) % 2) (not (eqb (r % 2) (r / 2 % 2))) 1 0
    (λ e. unlike (eqb-false (r % 2) (r / 2 % 2) (not-true _ e)))
    (λ e. alike (eqb-true (r % 2) (r / 2 % 2) (not-false _ e)))
  where
    unlike : (r % 2 ≡ r / 2 % 2 → ⊥) → 1 ≡ (r + r / 2) % 2
    unlike h = omega arith

    alike : r % 2 ≡ r / 2 % 2 → 0 ≡ (r + r / 2) % 2
    alike e = omega arith

-- no other bits matter to it
feedback_low : (r s : ℕ) → r % 4 ≡ s % 4 → feedback_of r ≡ feedback_of s
unfolding feedback_of
feedback_low r s e = ap₂ (λ (a b : ℕ). pick (not (eqb a b)) 1 0) (first r s e) (second r s e)
  where
    first : (r s : ℕ) → r % 4 ≡ s % 4 → r % 2 ≡ s % 2
    first r s e = omega arith

    second : (r s : ℕ) → r % 4 ≡ s % 4 → r / 2 % 2 ≡ s / 2 % 2
    second r s e = omega arith

-- ---- a step, with x as the bit that it feeds back
abbrev pub stepped_by : Bool → ℕ → ℕ → ℕ
stepped_by true x r = x * 16384 + r / 256 * 128 + x * 64 + r / 2 % 64
stepped_by false x r = r / 2 + x * 16384

put_wide : (x q : ℕ) → x ≤ 1 → q ≤ 0x3FFF → put_bit 14 x q ≡ q + x * 16384
unfolding put_bit
put_wide x q k h = omega arith

put_narrow : (x q : ℕ) → put_bit 6 x (q + x * 16384) ≡ x * 16384 + q / 128 * 128 + x * 64 + q % 64
unfolding put_bit
put_narrow x q = omega (arith, above x q, below x q)
  where
    above : (x q : ℕ) → (q + x * 16384) / 128 ≡ x * 128 + q / 128
    above x q = omega arith

    below : (x q : ℕ) → (q + x * 16384) % 64 ≡ q % 64
    below x q = omega arith

pub one_step : (narrow : Bool) (r : ℕ) → r ≤ 0x7FFF → stepped_register r narrow ≡ stepped_by narrow (feedback_of r) r
unfolding pick stepped_register
one_step narrow r h = go narrow (put_wide (feedback_of r) (r / 2) (feedback_le r) (half_le r h))
  where
    half_le : (r : ℕ) → r ≤ 0x7FFF → r / 2 ≤ 0x3FFF
    half_le r h = omega arith

    half : (r : ℕ) → r / 2 / 128 ≡ r / 256
    half r = omega arith

    go : (narrow : Bool) → let x = feedback_of r in let wide = put_bit 14 x (r / 2) in
        wide ≡ r / 2 + x * 16384 → pick narrow (put_bit 6 x wide) wide ≡ stepped_by narrow x r
    go true e = let x = feedback_of r in ap (put_bit 6 x) e ∙ put_narrow x (r / 2) ∙ ap (λ (y : ℕ). x * 16384 + y * 128 + x * 64 + r / 2 % 64) (half r)
    go false e = e

-- in 7-bit mode a step moves two rows, bits 14 to 7 and bits 6 to 0, and its bit comes into both
pub rows : (x h l : ℕ) → l ≤ 127 → stepped_by true x (h * 128 + l) ≡ (h / 2 + x * 128) * 128 + (l / 2 + x * 64)
rows x h l k = omega (arith, high h l k, low h l k)
  where
    high : (h l : ℕ) → l ≤ 127 → (h * 128 + l) / 256 ≡ h / 2
    high h l k = omega arith

    low : (h l : ℕ) → l ≤ 127 → (h * 128 + l) / 2 % 64 ≡ l / 2
    low h l k = omega arith

-- what a step feeds back can be read off any row with the same lowest bits
pub step_by : (narrow : Bool) (s q : ℕ) → s ≤ 0x7FFF → s % 4 ≡ q % 4 → stepped_register s narrow ≡ stepped_by narrow (feedback_of q) s
step_by narrow s q h e = one_step narrow s h ∙ ap (λ (x : ℕ). stepped_by narrow x s) (feedback_low s q e)

-- ---- a loop over steps: those that are left, taken from where it stands, come to the whole
pub record StepsLeft (narrow : Bool) (left next whole : ℕ) : Type 0 where
  pub rest : iterate left (λ (x : ℕ). stepped_register x narrow) next ≡ whole
  pub within : next ≤ 0x7FFF

pub fewer_left : (narrow : Bool) (k left fewer next after whole : ℕ)
    → k + fewer ≡ left → after ≡ iterate k (λ (x : ℕ). stepped_register x narrow) next → after ≤ 0x7FFF
    → StepsLeft narrow left next whole → StepsLeft narrow fewer after whole
fewer_left narrow k left fewer next after whole d e w l =
    let f : ℕ → ℕ = λ (x : ℕ). stepped_register x narrow in
    record { rest = ap (iterate fewer f) e ∙ sym (iterate_add k fewer f next) ∙ ap (λ (n : ℕ). iterate n f next) d ∙ l.rest; within = w }

-- ---- none of them, and one
pub no_step : (narrow : Bool) (n r : ℕ) → n ≡ 0 → r ≡ iterate n (λ (x : ℕ). stepped_register x narrow) r
unfolding iterate
no_step narrow n r e = sym (ap (λ (k : ℕ). iterate k (λ (x : ℕ). stepped_register x narrow) r) e)

pub single_step : (narrow : Bool) (n r once : ℕ) → n ≤ 1 → (n ≡ 0 → ⊥) → once ≡ stepped_register r narrow
    → once ≡ iterate n (λ (x : ℕ). stepped_register x narrow) r
unfolding iterate
single_step narrow n r once few some e = e ∙ sym (ap (λ (k : ℕ). iterate k (λ (x : ℕ). stepped_register x narrow) r) (only n few some))
  where
    only : (n : ℕ) → n ≤ 1 → (n ≡ 0 → ⊥) → n ≡ 1
    only n few some = omega arith
