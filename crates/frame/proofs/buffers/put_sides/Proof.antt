-- The two stores are the definition's; the first leaves the length. Assumes nothing.
use borrow.Author.Rules.{rules}
use native.Mathlib.Omega.{arith}
use Rattle.frame.specs.Buffers.{put}
use lib.ListN.{length-set}
use Rattle.frame.proofs.buffers.put_sides.Statement.{statement}
use Rattle.frame.proofs.buffers.put_sides.Tie as tie

pub put_sides_spec : {M : Type 1} → statement M
unfolding put
put_sides_spec =
    tie.close
    (tie.spec
    (λ c. search rules)
    (λ c. search rules)
    (λ c. search rules)
    (λ c. search rules)
    (λ c. simp length-set (omega arith))
    (λ c. search rules)
    (λ c. search rules))
