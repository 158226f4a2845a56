-- What is left of the steps, taken from where the loop stands, comes to the whole. Assumes nothing.
use mathlib.Core.Path.{refl, ◌∙◌}
use Prim.Native.Nat.{◌-◌}
use borrow.Author.Rules.{rules}
use native.Mathlib.Omega.{arith}
use Rattle.channel_noise.proofs.Steps.{fewer_left}
use Rattle.channel_noise.proofs.feedback.step_times.Goals as goal

pub loop-left-init : goal.loop-left-init
loop-left-init c = record { rest = refl; within = search rules }

pub loop-left-smaller : goal.loop-left-smaller
loop-left-smaller c = omega arith

pub loop-left-preserved : goal.loop-left-preserved
loop-left-preserved c =
    let l = c.loop-left in
    fewer_left _ 24 l.left (l.left - 24) l.next _ _ (omega arith) c.step_some-next.ensures.value c.step_some-next.ensures.upper_bound l.invariant

pub returns : goal.returns
returns c = c.step_some.ensures.value ∙ c.loop-left.invariant.rest
