-- A frame's bytes from its ten numbers: one run of stores, and the same as from five buffers of two. Assumes nothing.
use Prim.Native.Nat.{ℕ, ◌+◌}
use mathlib.Core.Path.{◌≡◌, refl, sym, ap, ap₂, ◌∙◌}
use mathlib.Core.List.{List, [], ◌∷◌, ◌++◌}
use native.Mathlib.Numerals.{add-one}
use native.Mathlib.Omega.{arith}
use lib.ListN.{set}
use lib.Seq.{sets}
use lib.Ieee.{Float}
use Rattle.frame.specs.Buffers.{five, put, framed}
use Rattle.frame.specs.declared.mixing.Sides.{Sides}
use Rattle.frame.specs.declared.mixing.Mix.{Mix}
use Rattle.log_items.specs.Items.{be32, samples_bytes, sides_bytes, frame_item, mix_item}
use Rattle.log_items.proofs.Stores.{sets_append}

-- eight bytes, and the rest eight places on
eight_more : (l : List ℕ) (i j : ℕ) (s : Sides) (rest : List ℕ) → i + 8 ≡ j → sets (sets l i (sides_bytes s)) j rest ≡ sets l i (sides_bytes s ++ rest)
eight_more l i j s rest e = ap (λ (k : ℕ). sets (sets l i (sides_bytes s)) k rest) (sym e) ∙ sym (sets_append l i (sides_bytes s) rest)

next : (at k : ℕ) → at + k + 8 ≡ at + (k + 8)
next at k = omega arith

-- one store and five runs, each behind the one before
pub mix_bytes : (l x₁ x₂ x₃ x₄ x₅ : List ℕ) (at : ℕ) (m : Mix)
    → x₁ ≡ sets (set l at 70) (at + 1) (sides_bytes m.pulse1) → x₂ ≡ sets x₁ (at + 9) (sides_bytes m.pulse2) → x₃ ≡ sets x₂ (at + 17) (sides_bytes m.wave)
    → x₄ ≡ sets x₃ (at + 25) (sides_bytes m.noise) → x₅ ≡ sets x₄ (at + 33) (sides_bytes m.all)
    → x₅ ≡ sets l at (mix_item m)
unfolding mix_item
mix_bytes l x₁ x₂ x₃ x₄ x₅ at m e₁ e₂ e₃ e₄ e₅ =
    let fourth : List ℕ = sides_bytes m.noise ++ sides_bytes m.all in
    let third : List ℕ = sides_bytes m.wave ++ fourth in
    let second : List ℕ = sides_bytes m.pulse2 ++ third in
    let first : List ℕ = sides_bytes m.pulse1 ++ second in
    e₅
    ∙ ap (λ (x : List ℕ). sets x (at + 33) (sides_bytes m.all)) e₄
    ∙ eight_more x₃ (at + 25) (at + 33) m.noise (sides_bytes m.all) (next at 25)
    ∙ ap (λ (x : List ℕ). sets x (at + 25) fourth) e₃
    ∙ eight_more x₂ (at + 17) (at + 25) m.wave fourth (next at 17)
    ∙ ap (λ (x : List ℕ). sets x (at + 17) third) e₂
    ∙ eight_more x₁ (at + 9) (at + 17) m.pulse2 third (next at 9)
    ∙ ap (λ (x : List ℕ). sets x (at + 9) second) e₁
    ∙ eight_more (set l at 70) (at + 1) (at + 9) m.pulse1 second (next at 1)
    ∙ ap (λ (k : ℕ). sets (set l at 70) k first) (add-one at)

-- two words in a row
pub two_words : (l x₁ x₂ : List ℕ) (at a b p q : ℕ) → x₁ ≡ sets l at (be32 a) → x₂ ≡ sets x₁ (at + 4) (be32 b) → a ≡ p → b ≡ q
    → x₂ ≡ sets l at (be32 p ++ be32 q)
two_words l x₁ x₂ at a b p q e₁ e₂ f g =
    e₂
    ∙ ap (λ (x : List ℕ). sets x (at + 4) (be32 b)) e₁
    ∙ sym (sets_append l at (be32 a) (be32 b))
    ∙ ap₂ (λ (x y : ℕ). sets l at (be32 x ++ be32 y)) f g

-- two places of each buffer take the pair
pub mix-item : (x y : Float) (m : Mix) → let two = x ∷ y ∷ [] in frame_item (framed m 0 (five two two two two two)) ≡ mix_item m
unfolding frame_item samples_bytes framed put mix_item
mix-item x y m = refl
