-- Converter and sides are the definition's, by what the calls ensure. Assumes nothing.
use Rattle.frame.specs.Mixing.{voiced}
use Rattle.frame.proofs.mixing.voice.Goals as goal

pub returns : goal.returns
unfolding voiced
returns c =
    let sides-of = c.sides_of-sides in
    let selected2 = c.selected-leftward in
    let selected = c.selected-rightward in
    let dac-output = c.dac_output-converted in
    rw (sides-of.ensures, selected2.ensures, selected.ensures, dac-output.ensures)
