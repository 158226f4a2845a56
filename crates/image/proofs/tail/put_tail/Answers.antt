-- The fields are stored one after the other, each where the last one ends. Assumes nothing.
use mathlib.Core.Path.{refl, sym, ap, ◌∙◌}
use Rattle.clocks.proofs.Positions.{read_back}
use Rattle.image_fields.proofs.Rows.{onward}
use Rattle.image_fields.specs.Codes.{position_byte}
use Rattle.image.specs.Image.{tail_bytes}
use Rattle.image.proofs.tail.put_tail.Goals as goal

pub position_byte-position-requires : goal.position_byte-position-requires
position_byte-position-requires c =
    let c = c in
    rw (read_back c.args.unit.sequencer_position c.requires.position_held) c.requires.position_held

pub returns : goal.returns
unfolding tail_bytes
returns c =
    let to-power = onward _ _ _ _ _ c.put_bytes.ensures c.put_flag.ensures refl in
    let to-counter = onward _ _ _ _ _ to-power c.put_eight.ensures refl in
    let to-divider-sequencer-clock-bit = onward _ _ _ _ _ to-counter c.put_flag-2.ensures refl in
    let to-position = onward _ _ _ _ _ to-divider-sequencer-clock-bit c.put_bytes-2.ensures refl in
    let pattern = c.pattern64-counter.ensures in
    let byte = c.position_byte-position.ensures in
    let same = byte ∙ ap position_byte (read_back c.args.unit.sequencer_position c.requires.position_held) in
    rw (sym pattern, sym same) (onward _ _ _ _ _ to-position c.put_flag-3.ensures refl)
