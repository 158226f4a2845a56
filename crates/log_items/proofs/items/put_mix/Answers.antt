-- One store and five runs, each behind the one before, are one run of stores. Assumes nothing.
use native.Mathlib.Omega.{arith}
use mathlib.Core.Path.{◌∙◌}
use lib.ListN.{length-set}
use Rattle.log_items.proofs.Mixes.{mix_bytes}
use Rattle.log_items.proofs.items.put_mix.Goals as goal

pub put_numbers-requires : goal.put_numbers-requires
put_numbers-requires c =
    let stored = length-set c.args.out.now c.args.at 70 in
    record { at_in_bounds = omega (arith, c.requires.frame_length_in_bounds, stored); numbers = c.requires.known.pulse1 }

pub put_numbers-requires-2 : goal.put_numbers-requires-2
put_numbers-requires-2 c =
    let stored = length-set c.args.out.now c.args.at 70 in
    record { at_in_bounds = omega (arith, c.requires.frame_length_in_bounds, stored, c.put_numbers.auto.out); numbers = c.requires.known.pulse2 }

pub put_numbers-requires-3 : goal.put_numbers-requires-3
put_numbers-requires-3 c =
    let stored = length-set c.args.out.now c.args.at 70 in
    record {
      at_in_bounds = omega (arith, c.requires.frame_length_in_bounds, stored, c.put_numbers.auto.out, c.put_numbers-2.auto.out);
      numbers = c.requires.known.wave;
    }

pub put_numbers-requires-4 : goal.put_numbers-requires-4
put_numbers-requires-4 c =
    let stored = length-set c.args.out.now c.args.at 70 in
    record {
      at_in_bounds = omega (arith, c.requires.frame_length_in_bounds, stored, c.put_numbers.auto.out, c.put_numbers-2.auto.out, c.put_numbers-3.auto.out);
      numbers = c.requires.known.noise;
    }

pub put_numbers-requires-5 : goal.put_numbers-requires-5
put_numbers-requires-5 c =
    let stored = length-set c.args.out.now c.args.at 70 in
    let early = c.put_numbers.auto.out ∙ stored in
    record {
      at_in_bounds = omega (arith, c.requires.frame_length_in_bounds, early, c.put_numbers-2.auto.out, c.put_numbers-3.auto.out, c.put_numbers-4.auto.out);
      numbers = c.requires.known.all;
    }

pub shape_of-out : goal.shape_of-out
shape_of-out c =
    let stored = length-set c.args.out.now c.args.at 70 in
    c.put_numbers-5.auto.out
    ∙ c.put_numbers-4.auto.out
    ∙ c.put_numbers-3.auto.out
    ∙ c.put_numbers-2.auto.out
    ∙ c.put_numbers.auto.out
    ∙ stored

pub returns : goal.returns
returns c =
    mix_bytes _ _ _ _ _ _ _ _ c.put_numbers.ensures c.put_numbers-2.ensures c.put_numbers-3.ensures
    c.put_numbers-4.ensures c.put_numbers-5.ensures
