-- Two words in a row are one run of stores, and no NaN is asked for its pattern. Assumes nothing.
use native.Mathlib.Omega.{arith}
use mathlib.Core.Path.{refl, ◌∙◌}
use lib.Ieee.{binary32, to_bits}
use Rattle.log_items.proofs.Mixes.{two_words}
use Rattle.log_items.proofs.items.put_numbers.Goals as goal

pub float_to_bits-sides : goal.float_to_bits-sides
float_to_bits-sides c = c.requires.numbers.right

pub float_to_bits-sides-2 : goal.float_to_bits-sides-2
float_to_bits-sides-2 c = c.requires.numbers.left

pub put_word-requires-2 : goal.put_word-requires-2
put_word-requires-2 c = omega (arith, c.put_word.auto.out)

pub shape_of-out : goal.shape_of-out
shape_of-out c = c.put_word-2.auto.out ∙ c.put_word.auto.out

pub returns : goal.returns
returns c =
    let a = c.args in
    let right = to_bits binary32 a.sides.right in
    let left = to_bits binary32 a.sides.left in
    two_words a.out.now _ _ a.at right left right left c.put_word.ensures c.put_word-2.ensures refl refl
