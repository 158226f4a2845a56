-- What is left of the steps, taken from where the loop stands, comes to the whole. Assumes nothing.
use Prim.Native.Nat.{ℕ}
use Rattle.ground.specs.Iterate.{iterate}
use Rattle.channel_noise.specs.Noise.{stepped_register}
use Rattle.channel_noise.proofs.Steps.{StepsLeft}
use Rattle.channel_noise.proofs.feedback.step_times.Given as goal

abbrev pub invariant-loop-left : goal.invariant-loop-left
invariant-loop-left l = StepsLeft l.narrow l.left l.next (iterate l.times (λ (x : ℕ). stepped_register x l.narrow) l.register)

abbrev pub decreases-loop-left : goal.decreases-loop-left
decreases-loop-left l = l.left
