-- How many bytes the records of a wait have: eight each. Assumes nothing.
use Prim.Native.Nat.{ℕ, zero, suc, ◌+◌, ◌*◌, ◌/◌, ◌%◌}
use mathlib.Core.Path.{◌≡◌, refl, sym, ap, ap₂, ◌∙◌}
use mathlib.Core.Bool.{Bool, true, false}
use mathlib.Core.List.{List, [], ◌∷◌, ◌++◌, append_assoc}
use native.Mathlib.Omega.{arith}
use lib.ListN.{length, length-append}
use lib.Dec.{eqb}
use Rattle.ground.specs.Pick.{pick}
use Rattle.log_records.specs.Judge.{Judged}
use Rattle.log_vgm.specs.Log.{clock_record, record_bytes, written, wholes, rest_of, wait_records, wait_bytes}

-- one row of records after another
pub written_append : (l m : List Judged) → written (l ++ m) ≡ written l ++ written m
unfolding written
written_append [] m = refl
written_append (r ∷ l) m = ap (λ (x : List ℕ). record_bytes r ++ x) (written_append l m) ∙ sym (append_assoc (record_bytes r) (written l) (written m))

pub wholes_long : (C k : ℕ) → length (written (wholes C k)) ≡ k * 8
unfolding written wholes
wholes_long C zero = refl
wholes_long C (suc k) = omega (arith, wholes_long (C + 16384) k)

pub rest_long : (C n : ℕ) → length (written (rest_of C n)) ≡ pick (eqb n 0) 0 8
unfolding written rest_of pick
rest_long C n = go (eqb n 0)
  where
    go : (b : Bool) → length (written (pick b [] (clock_record C n ∷ []))) ≡ pick b 0 8
    go true = refl
    go false = refl

pub wait_long : (C n : ℕ) → length (written (wait_records C n)) ≡ wait_bytes n
unfolding wait_bytes
wait_long C n =
    ap length (written_append (wholes C (n / 16384)) _)
    ∙ length-append (written (wholes C (n / 16384))) _
    ∙ ap₂ ◌+◌ (wholes_long C (n / 16384)) (rest_long (C + n / 16384 * 16384) (n % 16384))
