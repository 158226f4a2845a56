-- What is stored is the capacitor's pattern. Assumes nothing.
use Rattle.image_parts.specs.Parts.{converter_bytes}
use Rattle.image_parts.proofs.converter.put_converter.Goals as goal

pub returns : goal.returns
unfolding converter_bytes
returns c = rw c.pattern.ensures at c.put_four.ensures
