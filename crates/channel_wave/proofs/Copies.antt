-- Four bytes of wave RAM copied to its front. Assumes nothing.
use Prim.Native.Nat.{ℕ, zero, suc, ◌+◌, ◌-◌, ◌≤◌}
use mathlib.Core.Path.{◌≡◌, refl, sym, ◌∙◌, ap}
use mathlib.Core.List.{List, [], ◌∷◌, ◌++◌}
use native.Mathlib.Omega.{arith}
use native.Mathlib.Numerals.{add-one, add-two, add-three}
use lib.ListN.{length, get_or, set, take, drop}
use Rattle.std.proofs.Math.Seq.{drop-cons}
use Rattle.channel_wave.specs.Wave.{four_from}

-- the four from a place on
four_at : (b : List ℕ) (s : ℕ) → s + 4 ≤ length b
    → take 4 (drop s b) ≡ get_or b s 0 ∷ get_or b (s + 1) 0 ∷ get_or b (s + 2) 0 ∷ get_or b (s + 3) 0 ∷ []
four_at b s h =
    simp (add-one, add-two, add-three)
    (rw (
      drop-cons b s 0 (omega arith),
      drop-cons b (suc s) 0 (omega arith),
      drop-cons b (suc (suc s)) 0 (omega arith),
      drop-cons b (suc (suc (suc s))) 0 (omega arith),
    )
    refl)

-- four stores at the front
front : (b : List ℕ) (w x y z : ℕ) → 4 ≤ length b → set (set (set (set b 0 w) 1 x) 2 y) 3 z ≡ (w ∷ x ∷ y ∷ z ∷ []) ++ drop 4 b
front [] w x y z h = absurd (omega arith)
front (a ∷ []) w x y z h = absurd (omega arith)
front (a ∷ b ∷ []) w x y z h = absurd (omega arith)
front (a ∷ b ∷ c ∷ []) w x y z h = absurd (omega arith)
front (a ∷ b ∷ c ∷ d ∷ r) w x y z h = refl

pub copied : (b : List ℕ) (s : ℕ) → s + 4 ≤ length b → take (s + 4 - s) (drop s b) ++ drop 4 b ≡ four_from b s
unfolding four_from
copied b s h =
    let long : s + 4 - s ≡ 4 = omega arith in
    rw (long, four_at b s h) (sym (front b _ _ _ _ (omega arith)))
