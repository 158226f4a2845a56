-- How many calls of a record see one divider bit: all of them where the divider stands, and where it runs those up to the bit's next change. Assumes nothing.
use Prim.Native.Nat.{ℕ, zero, suc, ◌+◌, ◌-◌, ◌*◌, ◌/◌, ◌%◌, ◌<◌, ◌≤◌}
use mathlib.Core.Path.{◌≡◌, refl, sym, ap, ◌∙◌}
use mathlib.Core.Bool.{Bool, true, false}
use native.Mathlib.Nat.{add-zero, add-suc, suc-add}
use native.Mathlib.Omega.{arith}
use lib.Dec.{eqb}
use Rattle.ground.specs.Pick.{pick}
use Rattle.ground.specs.Iterate.{iterate}
use Rattle.apu_clock.specs.Sequencer.{bit_of}
use Rattle.apu_run.specs.Working.{Take}
use Rattle.log_records.specs.Divider.{divider_at}
use Rattle.apu_run.specs.Owed.{change_of, OneBit}
use Rattle.log_records.specs.declared.divider.Divider.{Divider}
use Rattle.log_records.specs.declared.divider.Divider.TheVariants.{Standing, Running}
use Rattle.apu_run.proofs.Rows.{call_on, rows, rows_none, rows_first}
use Rattle.apu_run.proofs.Beats.{call_by, call-by}

-- ---- the divider stands
pub stands : (double : Bool) (byte phase i k : ℕ) → OneBit double (Standing byte phase) i k
unfolding divider_at
stands double byte phase i k j l = refl

-- ---- it runs: the bit is one of the number byte × 64 + phase + i
place_is : (b p i : ℕ) → b + (p + i) / 64 ≡ (b * 64 + p + i) / 64
place_is b p i = omega arith

bit_10 : (x : ℕ) → x / 64 % 256 / 16 % 2 ≡ x / 1024 % 2
bit_10 x = omega arith

bit_11 : (x : ℕ) → x / 64 % 256 / 32 % 2 ≡ x / 2048 % 2
bit_11 x = omega arith

unfoldable place_bit : Bool → ℕ → Bool
place_bit double x = pick double (eqb (x / 2048 % 2) 1) (eqb (x / 1024 % 2) 1)

runs_bit : (double : Bool) (byte phase i : ℕ) → bit_of double (divider_at (Running byte phase) i) ≡ place_bit double (byte * 64 + phase + i)
unfolding divider_at bit_of place_bit pick
runs_bit double byte phase i = rw (place_is byte phase i) (go double)
  where
    x : ℕ
    x = byte * 64 + phase + i

    go : (double : Bool)
        → pick double (eqb (x / 64 % 256 / 32 % 2) 1) (eqb (x / 64 % 256 / 16 % 2) 1) ≡ pick double (eqb (x / 2048 % 2) 1) (eqb (x / 1024 % 2) 1)
    go true = ap (λ (n : ℕ). eqb n 1) (bit_11 x)
    go false = ap (λ (n : ℕ). eqb n 1) (bit_10 x)

pub runs : (double : Bool) (byte phase i k : ℕ) → k ≤ change_of double (byte * 64 + phase + i) → OneBit double (Running byte phase) i k
unfolding change_of place_bit pick
runs double byte phase i k h j l = runs_bit double byte phase (i + j) ∙ go double h ∙ sym (runs_bit double byte phase i)
  where
    x : ℕ
    x = byte * 64 + phase + i

    y : ℕ
    y = byte * 64 + phase + (i + j)

    near : (b p i j k : ℕ) → j < k → k ≤ 1024 - (b * 64 + p + i) % 1024 → (b * 64 + p + (i + j)) / 1024 ≡ (b * 64 + p + i) / 1024
    near b p i j k l h = omega arith

    far : (b p i j k : ℕ) → j < k → k ≤ 2048 - (b * 64 + p + i) % 2048 → (b * 64 + p + (i + j)) / 2048 ≡ (b * 64 + p + i) / 2048
    far b p i j k l h = omega arith

    go : (double : Bool) → k ≤ pick double (2048 - x % 2048) (1024 - x % 1024)
        → pick double (eqb (y / 2048 % 2) 1) (eqb (y / 1024 % 2) 1) ≡ pick double (eqb (x / 2048 % 2) 1) (eqb (x / 1024 % 2) 1)
    go true h = ap (λ (n : ℕ). eqb (n % 2) 1) (far byte phase i j k l h)
    go false h = ap (λ (n : ℕ). eqb (n % 2) 1) (near byte phase i j k l h)

-- a change is ahead by a call at least
pub change_some : (double : Bool) (x : ℕ) → 1 ≤ change_of double x
unfolding change_of pick
change_some true x = omega arith
change_some false x = omega arith

-- ---- calls that see one bit are so many calls by that bit
pub by_bit : (double bit : Bool) (d : Divider) (i k : ℕ) (t : Take) → ((j : ℕ) → j < k → bit_of double (divider_at d (i + j)) ≡ bit)
    → rows double d i k t ≡ iterate k (call_by double bit) t
unfolding iterate
by_bit double bit d i zero t h = rows_none double d i t
by_bit double bit d i (suc k) t h =
    rows_first double d i k t
    ∙ by_bit double bit d (suc i) k (call_on double (divider_at d i) t) (λ j l. rw (suc-add i j, ← add-suc i j) (h (suc j) (more j k l)))
    ∙ ap (iterate k (call_by double bit)) (call-by double (divider_at d i) t ∙ ap (λ (b : Bool). call_by double b t) (rw (add-zero i) at (h 0 (some k))))
  where
    more : (j k : ℕ) → j < k → suc j < suc k
    more j k l = omega arith

    some : (k : ℕ) → 0 < suc k
    some k = omega arith
