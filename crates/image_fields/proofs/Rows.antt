-- A run of stores in two pieces, and a row of bytes as a part. Assumes nothing.
use Prim.Native.Nat.{ℕ, zero, suc, ◌+◌, ◌≤◌, ◌<◌}
use mathlib.Core.Path.{◌≡◌, refl, sym, ap, ◌∙◌}
use mathlib.Core.List.{List, [], ◌∷◌, ◌++◌, append_assoc}
use native.Mathlib.Nat.{add-zero, add-suc, suc-add}
use native.Mathlib.Omega.{arith}
use lib.ListN.{length, get_or, take, drop, set}
use Rattle.std.proofs.lemmas.List.{drop_more}
use lib.Seq.{sets, sets-eq}
use Rattle.image_fields.specs.Bytes.{stored, row}

pub sets_append : (l : List ℕ) (i : ℕ) (xs ys : List ℕ) → sets l i (xs ++ ys) ≡ sets (sets l i xs) (i + length xs) ys
sets_append l i [] ys = rw add-zero
sets_append l i (x ∷ xs) ys = sets_append (set l i x) (suc i) xs ys ∙ simp (suc-add, add-suc)

-- what was stored, and then n places on more
pub onward : {m k : List ℕ} (l : List ℕ) (i n : ℕ) (xs ys : List ℕ) → m ≡ stored l i xs → k ≡ stored m (i + n) ys → n ≡ length xs → k ≡ stored l i (xs ++ ys)
unfolding stored
onward l i n xs ys e g f = g ∙ rw (e, f) (sym (sets_append l i xs ys))

-- a row of bytes read one by one is a part
pub row_part : (s : List ℕ) (at k n : ℕ) → at + k + n ≤ length s → row s at k n ≡ take n (drop (at + k) s)
row_part s at k zero h = refl
row_part s at k (suc n) h =
    let lt : at + k < length s = omega arith in
    let next : at + suc k ≡ at + k + 1 = omega arith in
    rw (drop_more s (at + k) 0 lt) (ap (λ (l : List ℕ). get_or s (at + k) 0 ∷ l) (rw next at (row_part s at (suc k) n (omega arith))))

-- and a row of bytes stored one by one takes the place of a part
pub stored_is : (l : List ℕ) (i : ℕ) (xs : List ℕ) → i + length xs ≤ length l → stored l i xs ≡ take i l ++ (xs ++ drop (i + length xs) l)
unfolding stored
stored_is l i xs h = sets-eq xs l i h ∙ append_assoc (take i l) xs (drop (i + length xs) l)

pub row_there : (s : List ℕ) (at n : ℕ) → at + n ≤ length s → take n (drop at s) ≡ row s at 0 n
row_there s at n h = sym (rw add-zero at (row_part s at 0 n (omega arith)))
