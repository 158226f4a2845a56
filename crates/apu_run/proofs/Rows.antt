-- Clock calls one by one: they keep the ranges, and a row of calls is its first and the others. Assumes nothing.
use Prim.Native.Nat.{ℕ, zero, suc, ◌+◌}
use mathlib.Core.Path.{◌≡◌, sym, ◌∙◌, ap}
use mathlib.Core.List.{List, ◌++◌, append-nil, append_assoc}
use mathlib.Core.Bool.{Bool}
use native.Mathlib.Nat.{zero-add, add-zero, suc-add, add-suc}
use Rattle.apu.specs.Held.{Held, FloatsHeld}
use Rattle.apu.specs.declared.Apu.{Apu}
use Rattle.apu_clock.proofs.Ranges.{clock_held}
use Rattle.apu_clock.proofs.Floats.{clock_floats}
use Rattle.apu_run.specs.Working.{Take}
use Rattle.apu_clock.specs.Clocking.{lent}
use Rattle.log_records.specs.Divider.{divider_at}
use Rattle.apu_run.specs.Calls.{call_bytes, call_unit, clocks_bytes, after_clocks}
use Rattle.log_records.specs.declared.divider.Divider.{Divider}

-- ---- a call keeps the ranges
call_held : (d : Bool) (v : ℕ) (a : Apu) → Held a → Held (call_unit d v a)
unfolding call_unit
call_held d v a h = clock_held a d v 0 lent h

call_floats : (d : Bool) (v : ℕ) (a : Apu) → Held a → FloatsHeld a → FloatsHeld (call_unit d v a)
unfolding call_unit
call_floats d v a h f = clock_floats a d v 0 lent h f

pub clocks_held : (d : Bool) (v : Divider) (i k : ℕ) (a : Apu) → Held a → Held (after_clocks d v i k a)
unfolding after_clocks
clocks_held d v i zero a h = h
clocks_held d v i (suc k) a h = clocks_held d v (suc i) k (call_unit d (divider_at v i) a) (call_held d (divider_at v i) a h)

pub clocks_floats : (d : Bool) (v : Divider) (i k : ℕ) (a : Apu) → Held a → FloatsHeld a → FloatsHeld (after_clocks d v i k a)
unfolding after_clocks
clocks_floats d v i zero a h f = f
clocks_floats d v i (suc k) a h f =
    clocks_floats d v (suc i) k (call_unit d (divider_at v i) a) (call_held d (divider_at v i) a h) (call_floats d (divider_at v i) a h f)

-- ---- a row of calls, on a unit and the bytes that it has made
abbrev pub call_on : Bool → ℕ → Take → Take
call_on double divider t = record { apu = call_unit double divider t.apu; bytes = t.bytes ++ call_bytes double divider t.apu }

abbrev pub rows : Bool → Divider → ℕ → ℕ → Take → Take
rows double d i k t = record { apu = after_clocks double d i k t.apu; bytes = t.bytes ++ clocks_bytes double d i k t.apu }

pub rows_none : (double : Bool) (d : Divider) (i : ℕ) (t : Take) → rows double d i 0 t ≡ t
unfolding after_clocks clocks_bytes
rows_none double d i t = ap (λ (l : List ℕ). record { apu = t.apu; bytes = l }) (append-nil t.bytes)

-- its first call, and the others
pub rows_first : (double : Bool) (d : Divider) (i k : ℕ) (t : Take) → rows double d i (suc k) t ≡ rows double d (suc i) k (call_on double (divider_at d i) t)
unfolding after_clocks clocks_bytes
rows_first double d i k t =
    ap (λ (l : List ℕ). record { apu = after_clocks double d i (suc k) t.apu; bytes = l }) (sym (append_assoc t.bytes _ _))

-- some calls, and the others
pub rows_split : (double : Bool) (d : Divider) (i j k : ℕ) (t : Take) → rows double d i (j + k) t ≡ rows double d (i + j) k (rows double d i j t)
rows_split double d i zero k t = rw (zero-add k, add-zero i) (ap (rows double d i k) (sym (rows_none double d i t)))
rows_split double d i (suc j) k t =
    rw (suc-add j k, add-suc i j, ← suc-add i j)
    (rows_first double d i (j + k) t
    ∙ rows_split double d (suc i) j k (call_on double (divider_at d i) t)
    ∙ ap (rows double d (suc i + j) k) (sym (rows_first double d i j t)))
