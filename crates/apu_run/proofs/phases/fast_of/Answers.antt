-- Each reload and each choice are the definition's, by what the calls ensure. Assumes nothing.
use Rattle.apu_run.specs.Phases.{fast_of}
use Rattle.apu_run.proofs.phases.fast_of.Goals as goal

pub returns : goal.returns
unfolding fast_of
returns c = rw (c.min.ensures, c.near-tones.ensures, c.reload-3.ensures, c.reload-2.ensures, c.reload.ensures)
