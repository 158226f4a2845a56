-- Calls that see the same dividers do the same, and the divider some calls on is the one of a record that begins there. Assumes nothing.
use Prim.Native.Nat.{ℕ, zero, suc, ◌+◌, ◌/◌, ◌%◌, ◌≤◌, ◌<◌}
use mathlib.Core.Path.{◌≡◌, refl, sym, ◌∙◌, ap}
use mathlib.Core.Bool.{Bool}
use native.Mathlib.Nat.{zero-add, add-zero, add-suc}
use native.Mathlib.Omega.{arith}
use Rattle.apu_run.specs.Working.{Take}
use Rattle.apu_run.proofs.Rows.{call_on, rows, rows_none, rows_first, rows_split}
use Rattle.apu_run.proofs.Turns.{none}
use Rattle.log_records.specs.Divider.{divider_at}
use Rattle.log_records.specs.declared.divider.Divider.{Divider}
use Rattle.log_records.specs.declared.divider.Divider.TheVariants.{Standing, Running}
use Rattle.log_player.specs.Cuts.{onward, Cuts}

-- ---- n calls of one record, from call m on, and those of another
module _ (double : Bool) (d e : Divider) (m n : ℕ) (same : (i : ℕ) → i < n → divider_at d (m + i) ≡ divider_at e i) where
  alike : (i k : ℕ) (t : Take) → i + k ≤ n → rows double d (m + i) k t ≡ rows double e i k t
  alike i zero t h = rows_none double d (m + i) t ∙ sym (rows_none double e i t)
  alike i (suc k) t h =
      let here : i < n = omega arith in
      let rest : suc i + k ≤ n = omega arith in
      rows_first double d (m + i) k t
      ∙ ap (λ (x : ℕ). rows double d x k (call_on double (divider_at d (m + i)) t)) (sym (add-suc m i))
      ∙ alike (suc i) k (call_on double (divider_at d (m + i)) t) rest
      ∙ ap (λ (x : ℕ). rows double e (suc i) k (call_on double x t)) (same i here)
      ∙ sym (rows_first double e i k t)

-- ---- some calls on
onward_at : (d : Divider) (j i : ℕ) → divider_at d (j + i) ≡ divider_at (onward d j) i
unfolding divider_at
onward_at (Standing byte phase) j i = refl
onward_at (Running byte phase) j i = steps byte phase j i
  where
    steps : (b p j i : ℕ) → (b + (p + (j + i)) / 64) % 256 ≡ ((b + (p + j) / 64) % 256 + ((p + j) % 64 + i) / 64) % 256
    steps b p j i = omega arith

cut : (double : Bool) (d : Divider) (j k : ℕ) (t : Take) → rows double d 0 (j + k) t ≡ rows double (onward d j) 0 k (rows double d 0 j t)
cut double d j k t =
    rows_split double d 0 j k t
    ∙ ap (λ (x : ℕ). rows double d x k (rows double d 0 j t)) (zero-add j ∙ sym (add-zero j))
    ∙ alike double d (onward d j) j k (λ i _. onward_at d j i) 0 k (rows double d 0 j t) (within k)
  where
    within : (k : ℕ) → 0 + k ≤ k
    within k = omega arith

-- ---- before the next step
near : (double : Bool) (byte phase count : ℕ) (t : Take) → byte ≤ 255 → phase + count ≤ 64
    → rows double (Running byte phase) 0 count t ≡ rows double (Standing byte 0) 0 count t
unfolding divider_at
near double byte phase count t b h = alike double (Running byte phase) (Standing byte 0) 0 count (λ i l. same byte phase count i b h l) 0 count t (within count)
  where
    same : (byte phase count i : ℕ) → byte ≤ 255 → phase + count ≤ 64 → i < count → divider_at (Running byte phase) (0 + i) ≡ divider_at (Standing byte 0) i
    same byte phase count i b h l = omega arith

    within : (k : ℕ) → 0 + k ≤ k
    within k = omega arith

pub cuts : Cuts
cuts =
    record {
      cut_bytes = λ double d j k a. ap (λ (t : Take). t.bytes) (cut double d j k (none a));
      cut_unit = λ double d j k a. ap (λ (t : Take). t.apu) (cut double d j k (none a));
      near_bytes = λ double byte phase count a b h. ap (λ (t : Take). t.bytes) (near double byte phase count (none a) b h);
      near_unit = λ double byte phase count a b h. ap (λ (t : Take). t.apu) (near double byte phase count (none a) b h);
    }
