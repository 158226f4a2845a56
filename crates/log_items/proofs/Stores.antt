-- Runs of stores in pieces, and bytes at the front. Assumes nothing.
use Prim.Native.Nat.{ℕ, suc, ◌+◌, ◌≤◌}
use mathlib.Core.Path.{◌≡◌, refl, sym, ◌∙◌}
use mathlib.Core.List.{List, [], ◌∷◌, ◌++◌, append_assoc}
use native.Mathlib.Nat.{add-zero, add-suc, suc-add}
use native.Mathlib.Omega.{arith}
use lib.ListN.{length, set, take, drop, replicate, length-take, length-drop, length-replicate}
use lib.Seq.{sets, sets-eq}
use borrow.Rule.Slice.PartMut.{put_mid}
use Rattle.std.proofs.lemmas.Slice.{put_mid-paste}
use Rattle.std.proofs.lemmas.List.Edits.{paste_all}

-- one run after another
pub sets_append : (l : List ℕ) (i : ℕ) (xs ys : List ℕ) → sets l i (xs ++ ys) ≡ sets (sets l i xs) (i + length xs) ys
sets_append l i [] ys = rw add-zero
sets_append l i (x ∷ xs) ys = sets_append (set l i x) (suc i) xs ys ∙ simp (suc-add, add-suc)

-- a part filled with zeros, in its place
pub zeros_filled : (l : List ℕ) (from n : ℕ) {part : List ℕ} → part ≡ replicate (length (take n (drop from l))) 0 → from + n ≤ length l
    → put_mid from n l part ≡ sets l from (replicate n 0)
zeros_filled l from n e h =
    let some : length (take n (drop from l)) ≡ n = omega (arith, length-take n (drop from l), length-drop from l) in
    let long = length-replicate n 0 in
    put_mid-paste from n l _ (replicate n 0) n (rw some at e) refl (sym long)
    ∙ paste_all l from (replicate n 0) n (sym long)
    ∙ sym (rw long at (sets-eq (replicate n 0) l from (rw long h)) ∙ append_assoc (take from l) (replicate n 0) (drop (from + n) l))

-- the bytes at the front of a slice are as many as were asked for
pub prefix_counts : (n : ℕ) (xs : List ℕ) → n ≤ length xs → n ≡ length (take n xs)
prefix_counts n xs h = let t = length-take n xs in omega (arith, t)
