-- The pattern of 0 is four zeros, so forty of them stand behind the first byte. Assumes nothing.
use native.Mathlib.Omega.{arith}
use Prim.Native.Nat.{ℕ, ◌+◌, ◌-◌}
use mathlib.Core.Path.{◌≡◌, ap₂, ◌∙◌}
use mathlib.Core.List.{List}
use lib.Ieee.{of_bits, to_bits}
use lib.ListN.{set, replicate, length-set}
use lib.Seq.{sets}
use Rattle.log_items.specs.Items.{mix_item, frame_length, silence}
use native.Mathlib.Numerals.{add-one}
use Rattle.log_items.proofs.items.put_silence.Goals as goal

silent-bytes : (l x : List ℕ) (at : ℕ) → x ≡ sets (set l at 70) (at + 1) (replicate (at + frame_length - (at + 1)) 0) → x ≡ sets l at (mix_item silence)
unfolding mix_item of_bits to_bits
silent-bytes l x at e = e ∙ ap₂ (λ (i n : ℕ). sets (set l at 70) i (replicate n 0)) (add-one at) (forty at)
  where
    forty : (at : ℕ) → at + frame_length - (at + 1) ≡ 40
    forty at = omega arith

pub shape_of-out : goal.shape_of-out
shape_of-out c =
    let zeros = c.put_zeros in
    let a = c.args in
    zeros.auto.out ∙ length-set a.out.now a.at 70

pub returns : goal.returns
returns c = silent-bytes _ _ _ c.put_zeros.ensures
