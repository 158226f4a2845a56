-- What many steps of the register feed back can be read off it all at once, and moves it as far at once. Assumes nothing.
use mathlib.Core.Path.{◌≡◌, sym, ap, ap₂, ◌∙◌}
use mathlib.Core.Bool.{Bool, true, false}
use Prim.Native.Nat.{ℕ, zero, suc, ◌+◌, ◌*◌, ◌/◌, ◌%◌, ◌^◌, ◌≤◌}
use native.Mathlib.Nat.{add_comm, add-mod, add-mul, mul_assoc, mul_comm, mod-one, mod-add-div', add-mul-mod_self_right, div-div-eq-div-mul, pow-suc}
use native.Mathlib.Nat.{zero-lt-suc, not-suc-le-zero, le_of_suc-le-suc, le_refl, le-add_left}
use native.Mathlib.Omega.{arith}
use lib.Arith.{mod-mul}
use lib.Pow.{pow_pos, pow-add, mod-mod-pow}
use lib.Bits.{bit_xor, differ, xor_step, xor_mod}
use Rattle.ground.specs.Iterate.{iterate}
use Rattle.channel_noise.specs.Noise.{feedback_of, stepped_register}
use Rattle.channel_noise.specs.Fed.{changes_of, moved_down, fed}
use Rattle.channel_noise.proofs.Ranges.{feedback_le}
use Rattle.channel_noise.proofs.Steps.{feedback_sum, one_step, step_by, rows}

-- ---- a number bit by bit, the lowest one first
low_suc : (s n : ℕ) → s % 2 ^ suc n ≡ s / 2 % 2 ^ n * 2 + s % 2
low_suc s n = ap (λ (p : ℕ). s % p) (pow-suc 2 n) ∙ mod-mul s (pow_pos n) (zero-lt-suc 1)

down_suc : (s n : ℕ) → s / 2 ^ suc n ≡ s / 2 / 2 ^ n
down_suc s n = ap (λ (p : ℕ). s / p) (pow-suc 2 n ∙ mul_comm (2 ^ n) 2) ∙ sym (div-div-eq-div-mul s 2 (2 ^ n))

-- ---- where a row changes
differ_sum : (a b : ℕ) → a ≤ 1 → b ≤ 1 → differ a b ≡ (a + b) % 2
differ_sum zero b h k = omega arith
differ_sum (suc a) zero h k = omega arith
differ_sum (suc a) (suc b) h k = let e : differ a b ≡ (a + b) % 2 = differ_sum a b (omega arith) (omega arith) in omega arith

changes_step : (s : ℕ) → changes_of s ≡ changes_of (s / 2) * 2 + (s + s / 2) % 2
unfolding changes_of
changes_step s = xor_step s (s / 2) ∙ ap (λ (x : ℕ). bit_xor (s / 2) (s / 2 / 2) * 2 + x) lowest
  where
    bit : (s : ℕ) → s % 2 ≤ 1
    bit s = omega arith

    lowest : differ (s % 2) (s / 2 % 2) ≡ (s + s / 2) % 2
    lowest = differ_sum (s % 2) (s / 2 % 2) (bit s) (bit (s / 2)) ∙ sym (add-mod s (s / 2) 2)

changes_suc : (n s : ℕ) → changes_of s % 2 ^ suc n ≡ changes_of (s / 2) % 2 ^ n * 2 + (s + s / 2) % 2
changes_suc n s = low_suc (changes_of s) n ∙ ap₂ (λ (a b : ℕ). a % 2 ^ n * 2 + b) (half _ _ _ (changes_step s)) (odd _ _ _ (changes_step s))
  where
    half : (x y z : ℕ) → x ≡ y * 2 + z % 2 → x / 2 ≡ y
    half x y z e = omega arith

    odd : (x y z : ℕ) → x ≡ y * 2 + z % 2 → x % 2 ≡ z % 2
    odd x y z e = omega arith

-- its lowest n changes are those of its lowest n + 1 bits
changes_low : (n s t : ℕ) → s % 2 ^ suc n ≡ t % 2 ^ suc n → changes_of s % 2 ^ n ≡ changes_of t % 2 ^ n
unfolding changes_of
changes_low n s t e =
    let halves : s / 2 % 2 ^ n * 2 + s % 2 ≡ t / 2 % 2 ^ n * 2 + t % 2 = sym (low_suc s n) ∙ e ∙ low_suc t n in
    xor_mod s (s / 2) n ∙ ap₂ bit_xor (sym (shorter s) ∙ ap (λ (x : ℕ). x % 2 ^ n) e ∙ shorter t) (above _ _ s t halves) ∙ sym (xor_mod t (t / 2) n)
  where
    shorter : (s : ℕ) → s % 2 ^ suc n % 2 ^ n ≡ s % 2 ^ n
    shorter s = ap (λ (k : ℕ). s % 2 ^ k % 2 ^ n) (one_more n) ∙ mod-mod-pow s 1 n
      where
        one_more : (n : ℕ) → suc n ≡ 1 + n
        one_more n = omega arith

    above : (a b s t : ℕ) → a * 2 + s % 2 ≡ b * 2 + t % 2 → a ≡ b
    above a b s t e = omega arith

-- ---- a row, and above it what its next steps feed back
abbrev pub row_of : Bool → ℕ → ℕ → ℕ
row_of true fedback row = row + fedback * 128
row_of false fedback row = row + fedback * 32768

-- one place down it is the row after a step
row_half : (narrow : Bool) (m row : ℕ)
    → let next = moved_down narrow row in row_of narrow (fed narrow (suc m) row) row / 2 ≡ row_of narrow (fed narrow m next) next
unfolding fed
row_half true m row = half (feedback_of row) (fed true m (moved_down true row)) row
  where
    half : (x f r : ℕ) → (r + (x + f * 2) * 128) / 2 ≡ r / 2 + x * 64 + f * 128
    half x f r = omega arith
row_half false m row = half (feedback_of row) (fed false m (moved_down false row)) row
  where
    half : (x f r : ℕ) → (r + (x + f * 2) * 32768) / 2 ≡ r / 2 + x * 16384 + f * 32768
    half x f r = omega arith

-- and its lowest change is what the step feeds back
row_odd : (narrow : Bool) (f row : ℕ) → let whole = row_of narrow f row in (whole + whole / 2) % 2 ≡ feedback_of row
row_odd true f row = ap (λ (h : ℕ). (row + f * 128 + h) % 2) (half f row) ∙ even (row / 2) f row ∙ sym (feedback_sum row)
  where
    half : (f r : ℕ) → (r + f * 128) / 2 ≡ r / 2 + f * 64
    half f r = omega arith

    even : (a f r : ℕ) → (r + f * 128 + (a + f * 64)) % 2 ≡ (r + a) % 2
    even a f r = omega arith
row_odd false f row = ap (λ (h : ℕ). (row + f * 32768 + h) % 2) (half f row) ∙ even (row / 2) f row ∙ sym (feedback_sum row)
  where
    half : (f r : ℕ) → (r + f * 32768) / 2 ≡ r / 2 + f * 16384
    half f r = omega arith

    even : (a f r : ℕ) → (r + f * 32768 + (a + f * 16384)) % 2 ≡ (r + a) % 2
    even a f r = omega arith

-- so what is fed back is where the whole changes
fed_changes : (narrow : Bool) (n m row : ℕ) → n ≤ m → changes_of (row_of narrow (fed narrow m row) row) % 2 ^ n ≡ fed narrow n row
unfolding fed
fed_changes narrow zero m row h = mod-one _
fed_changes narrow (suc n) zero row h = absurd (not-suc-le-zero h)
fed_changes narrow (suc n) (suc m) row h =
    let whole = row_of narrow (fed narrow (suc m) row) row in
    let next = moved_down narrow row in
    let later = ap (λ (t : ℕ). changes_of t % 2 ^ n) (row_half narrow m row) ∙ fed_changes narrow n m next (le_of_suc-le-suc h) in
    changes_suc n whole ∙ ap₂ (λ (a b : ℕ). a * 2 + b) later (row_odd narrow (fed narrow (suc m) row) row) ∙ add_comm _ _

-- the first of them
fed_first : (narrow : Bool) (k j row : ℕ) → fed narrow (j + k) row % 2 ^ k ≡ fed narrow k row
fed_first narrow k j row =
    let changes = changes_of (row_of narrow (fed narrow (j + k) row) row) in
    ap (λ (x : ℕ). x % 2 ^ k) (sym (fed_changes narrow (j + k) (j + k) row (le_refl (j + k))))
    ∙ mod-mod-pow changes j k
    ∙ fed_changes narrow k (j + k) row (le-add_left k j)

-- ---- reading them off: with k of them above the row, 14 more are to be seen, in 7-bit mode 6
abbrev reach : Bool → ℕ
reach true = 6
reach false = 14

pub fed_more : (narrow : Bool) (k row : ℕ) → changes_of (row_of narrow (fed narrow k row) row) % 2 ^ (reach narrow + k) ≡ fed narrow (reach narrow + k) row
fed_more narrow k row =
    let all = fed narrow (reach narrow + k) row in
    changes_low (reach narrow + k) (row_of narrow (fed narrow k row) row) (row_of narrow all row)
    (ap (λ (f : ℕ). row_of narrow f row % 2 ^ suc (reach narrow + k)) (sym (fed_first narrow k (reach narrow) row)) ∙ same narrow all)
    ∙ fed_changes narrow (reach narrow + k) (reach narrow + k) row (le_refl (reach narrow + k))
  where
    above : (p w f : ℕ) → (row + f % p * w) % (p * w) ≡ (row + f * w) % (p * w)
    above p w f =
        sym (add-mul-mod_self_right (row + f % p * w) (f / p) (p * w))
        ∙ ap (λ (x : ℕ). x % (p * w)) (regroup ∙ ap (λ (x : ℕ). row + x * w) (mod-add-div' f p))
      where
        regroup : row + f % p * w + f / p * (p * w) ≡ row + (f % p + f / p * p) * w
        regroup = omega (arith, mul_assoc (f / p) p w, add-mul (f % p) (f / p * p) w)

    power : (a k : ℕ) → 2 ^ k * 2 ^ suc a ≡ 2 ^ suc (a + k)
    power a k = sym (pow-add 2 k (suc a)) ∙ ap (λ (x : ℕ). 2 ^ x) (count a k)
      where
        count : (a k : ℕ) → k + suc a ≡ suc (a + k)
        count a k = omega arith

    same : (narrow : Bool) (f : ℕ) → row_of narrow (f % 2 ^ k) row % 2 ^ suc (reach narrow + k) ≡ row_of narrow f row % 2 ^ suc (reach narrow + k)
    same true f = rw (← power 6 k) (above (2 ^ k) 128 f)
    same false f = rw (← power 14 k) (above (2 ^ k) 32768 f)

pub fed_seen : (narrow : Bool) (row : ℕ) → changes_of row % 2 ^ reach narrow ≡ fed narrow (reach narrow) row
unfolding fed
fed_seen true row = ap (λ (x : ℕ). changes_of x % 0x40) (none row) ∙ fed_more true 0 row
  where
    none : (row : ℕ) → row ≡ row + 0 * 128
    none row = omega arith
fed_seen false row = ap (λ (x : ℕ). changes_of x % 0x4000) (none row) ∙ fed_more false 0 row
  where
    none : (row : ℕ) → row ≡ row + 0 * 32768
    none row = omega arith

-- as the code reads them; a, b and so on are the changes that it finds, one after another. All 15 bits: 14 steps, then more than the 24 asked for
pub fed_wide : (row a b : ℕ) → a ≡ changes_of row → b ≡ changes_of (row + a % 0x4000 * 0x8000) → b % 0x100_0000 ≡ fed false 24 row
fed_wide row a b first second =
    let f14 : a % 0x4000 ≡ fed false 14 row = ap (λ (x : ℕ). x % 0x4000) first ∙ fed_seen false row in
    let onward = second ∙ ap (λ (f : ℕ). changes_of (row + f * 0x8000)) f14 in
    let f28 : b % 0x1000_0000 ≡ fed false 28 row = ap (λ (x : ℕ). x % 0x1000_0000) onward ∙ fed_more false 14 row in
    sym (mod-mod-pow b 4 24) ∙ ap (λ (f : ℕ). f % 0x100_0000) f28 ∙ fed_first false 24 4 row

-- the lowest 7: 6 steps, then 12, 18 and 24
pub fed_narrow : (row a b d e : ℕ)
    → a ≡ changes_of row
    → b ≡ changes_of (row + a % 0x40 * 0x80)
    → d ≡ changes_of (row + b % 0x1000 * 0x80)
    → e ≡ changes_of (row + d % 0x4_0000 * 0x80)
    → e % 0x100_0000 ≡ fed true 24 row
fed_narrow row a b d e first second third fourth =
    let f6 : a % 0x40 ≡ fed true 6 row = ap (λ (x : ℕ). x % 0x40) first ∙ fed_seen true row in
    let f12 : b % 0x1000 ≡ fed true 12 row = ap (λ (x : ℕ). x % 0x1000) (second ∙ onward f6) ∙ fed_more true 6 row in
    let f18 : d % 0x4_0000 ≡ fed true 18 row = ap (λ (x : ℕ). x % 0x4_0000) (third ∙ onward f12) ∙ fed_more true 12 row in
    ap (λ (x : ℕ). x % 0x100_0000) (fourth ∙ onward f18) ∙ fed_more true 18 row
  where
    onward : {f g : ℕ} → f ≡ g → changes_of (row + f * 0x80) ≡ changes_of (row + g * 0x80)
    onward e = ap (λ (f : ℕ). changes_of (row + f * 0x80)) e

-- ---- moving as far at once: n steps, with the bits that at least as many feed back
down_row : (narrow : Bool) (n m row : ℕ) → let next = moved_down narrow row in
    row_of narrow (fed narrow (suc m) row) row / 2 ^ suc n ≡ row_of narrow (fed narrow m next) next / 2 ^ n
down_row narrow n m row = down_suc _ n ∙ ap (λ (x : ℕ). x / 2 ^ n) (row_half narrow m row)

pub steps_wide : (n m row : ℕ) → n ≤ m → row ≤ 0x7FFF
    → iterate n (λ (x : ℕ). stepped_register x false) row ≡ (row + fed false m row * 0x8000) / 2 ^ n % 0x8000
unfolding iterate
steps_wide zero m row h k = none row (fed false m row) k
  where
    none : (row f : ℕ) → row ≤ 0x7FFF → row ≡ (row + f * 0x8000) / 1 % 0x8000
    none row f k = omega arith
steps_wide (suc n) zero row h k = absurd (not-suc-le-zero h)
steps_wide (suc n) (suc m) row h k =
    let next = moved_down false row in
    ap (iterate n (λ (x : ℕ). stepped_register x false)) (one_step false row k)
    ∙ steps_wide n m next (le_of_suc-le-suc h) (within row (feedback_of row) k (feedback_le row))
    ∙ sym (ap (λ (x : ℕ). x % 0x8000) (down_row false n m row))
  where
    within : (row x : ℕ) → row ≤ 0x7FFF → x ≤ 1 → row / 2 + x * 16384 ≤ 0x7FFF
    within row x k l = omega arith

-- in 7-bit mode the bits come into two rows, bits 14 to 7 and bits 6 to 0
two_rows : (high low : ℕ) → high ≤ 0xFF → low ≤ 0x7F
    → stepped_register (high * 0x80 + low) true ≡ (high / 2 + feedback_of low * 128) * 0x80 + moved_down true low
two_rows high low k l =
    step_by true (high * 0x80 + low) low (whole high low k l) (lowest high low) ∙ rows (feedback_of low) high low l
  where
    whole : (high low : ℕ) → high ≤ 0xFF → low ≤ 0x7F → high * 0x80 + low ≤ 0x7FFF
    whole high low k l = omega arith

    lowest : (high low : ℕ) → (high * 0x80 + low) % 4 ≡ low % 4
    lowest high low = omega arith

down_high : (n m high low : ℕ) → let next = moved_down true low in
    (high + fed true (suc m) low * 0x100) / 2 ^ suc n ≡ (high / 2 + feedback_of low * 128 + fed true m next * 0x100) / 2 ^ n
unfolding fed
down_high n m high low = down_suc _ n ∙ ap (λ (x : ℕ). x / 2 ^ n) (half (feedback_of low) (fed true m (moved_down true low)) high)
  where
    half : (x f r : ℕ) → (r + (x + f * 2) * 0x100) / 2 ≡ r / 2 + x * 128 + f * 0x100
    half x f r = omega arith

pub steps_narrow : (n m high low : ℕ) → n ≤ m → high ≤ 0xFF → low ≤ 0x7F
    → iterate n (λ (x : ℕ). stepped_register x true) (high * 0x80 + low)
    ≡ (high + fed true m low * 0x100) / 2 ^ n % 0x100 * 0x80 + (low + fed true m low * 0x80) / 2 ^ n % 0x80
unfolding iterate
steps_narrow zero m high low h k l = none high low (fed true m low) k l
  where
    none : (high low f : ℕ) → high ≤ 0xFF → low ≤ 0x7F → high * 0x80 + low ≡ (high + f * 0x100) / 1 % 0x100 * 0x80 + (low + f * 0x80) / 1 % 0x80
    none high low f k l = omega arith
steps_narrow (suc n) zero high low h k l = absurd (not-suc-le-zero h)
steps_narrow (suc n) (suc m) high low h k l =
    let x = feedback_of low in
    let next = moved_down true low in
    ap (iterate n (λ (x : ℕ). stepped_register x true)) (two_rows high low k l)
    ∙ steps_narrow n m (high / 2 + x * 128) next (le_of_suc-le-suc h) (within_high high x k (feedback_le low)) (within low x l (feedback_le low))
    ∙ sym (ap₂ (λ (a b : ℕ). a % 0x100 * 0x80 + b % 0x80) (down_high n m high low) (down_row true n m low))
  where
    within_high : (high x : ℕ) → high ≤ 0xFF → x ≤ 1 → high / 2 + x * 128 ≤ 0xFF
    within_high high x k l = omega arith

    within : (low x : ℕ) → low ≤ 0x7F → x ≤ 1 → low / 2 + x * 64 ≤ 0x7F
    within low x k l = omega arith

-- at most 24 steps, with the bits that 24 feed back
pub some_wide : (narrow : Bool) (n row bits : ℕ) → narrow ≡ false → n ≤ 24 → row ≤ 0x7FFF → bits ≡ fed false 24 row
    → (row + bits * 0x8000) / 2 ^ n % 0x8000 ≡ iterate n (λ (x : ℕ). stepped_register x narrow) row
some_wide narrow n row bits mode few k e = rw (mode, e) (sym (steps_wide n 24 row few k))

pub some_narrow : (narrow : Bool) (n row bits : ℕ) → narrow ≡ true → n ≤ 24 → row ≤ 0x7FFF → bits ≡ fed true 24 (row % 0x80)
    → (row / 0x80 + bits * 0x100) / 2 ^ n % 0x100 * 0x80 + (row % 0x80 + bits * 0x80) / 2 ^ n % 0x80
    ≡ iterate n (λ (x : ℕ). stepped_register x narrow) row
some_narrow narrow n row bits mode few k e =
    let step : ℕ → ℕ = λ (x : ℕ). stepped_register x true in
    rw (mode, e) (sym (ap (iterate n step) (split row) ∙ steps_narrow n 24 (row / 0x80) (row % 0x80) few (high row k) (low row)))
  where
    split : (row : ℕ) → row ≡ row / 0x80 * 0x80 + row % 0x80
    split row = omega arith

    high : (row : ℕ) → row ≤ 0x7FFF → row / 0x80 ≤ 0xFF
    high row k = omega arith

    low : (row : ℕ) → row % 0x80 ≤ 0x7F
    low row = omega arith
