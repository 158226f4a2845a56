-- The units that are missing, by those of a clock and rounded up, are the distance that the ticks come to. Assumes nothing.
use mathlib.Core.Path.{sym}
use borrow.Author.Rules.{rules}
use Rattle.clocks.proofs.Distances.{away_is}
use Rattle.clocks.proofs.distance.until.Statement.{statement}
use Rattle.clocks.proofs.distance.until.Tie as tie

returns : tie.Need-returns
returns c = sym (away_is c.args.units c.requires)

pub until_spec : {M : Type 1} → statement M
until_spec = tie.close (tie.spec (λ c. search rules) (λ c. search rules) (λ c. search rules) (λ c. search rules) returns)
