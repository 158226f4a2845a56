-- 1 moved up by n places, which stays in 64 bits. Assumes nothing.
use borrow.Author.Rules.{rules}
use mathlib.Core.Path.{◌∙◌}
use native.Mathlib.Nat.{one-mul}
use native.Mathlib.Omega.{arith}
use Prim.Native.Nat.{◌^◌}
use lib.Dec.{lit<}
use lib.Pow.{shl_exact}
use Rattle.image_fields.proofs.floats.power.Statement.{statement}
use Rattle.image_fields.proofs.floats.power.Tie as tie

returns : tie.Need-returns
returns c = shl_exact {a = 1} 1 c.args.n 64 (lit< tt) (omega arith) ∙ one-mul (2 ^ c.args.n)

pub power_spec : {M : Type 1} → statement M
power_spec =
    tie.close
    (tie.spec
    (λ c. search rules)
    returns)
