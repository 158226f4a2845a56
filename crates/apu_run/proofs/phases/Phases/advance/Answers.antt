-- With power off nothing moves; with power on the pulses and the wave go as their call ensures, and the noise by itself. Assumes nothing.
use mathlib.Core.Path.{sym}
use Rattle.std.proofs.lemmas.Bool.{not-true, not-false}
use Rattle.apu_run.proofs.Moves.{moves, stands}
use Rattle.apu_run.proofs.phases.Phases.advance.Goals as goal

pub returns-then-not-settings : goal.returns-then-not-settings
returns-then-not-settings c = let a = c.args in sym (stands a.settings a.n a.self (not-true a.settings.power c.if-not-settings.true))

pub returns : goal.returns
returns c =
    let a = c.args in
    rw (c.advance.ensures, c.advance_tones-tones.ensures) (moves a.settings a.n a.self (not-false a.settings.power c.if-not-settings.false))
