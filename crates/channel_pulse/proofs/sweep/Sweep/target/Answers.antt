-- With the shadow at most 2047 neither the sum nor the difference wraps. Assumes nothing.
use native.Mathlib.Omega.{arith}
use Rattle.ground.specs.Pick.{pick}
use Rattle.channel_pulse.specs.Sweep.{NeverWraps, target_of}
use Rattle.channel_pulse.proofs.NeverWraps.{never_wraps}
use Rattle.channel_pulse.proofs.sweep.Sweep.target.Goals as goal

pub overflow_sub-result : goal.overflow_sub-result
overflow_sub-result c =
    let bounds : NeverWraps c.args.self.frequency_shadow c.args.self.shift_n = never_wraps _ _ c.requires.shadow in bounds.difference

pub overflow_add-result : goal.overflow_add-result
overflow_add-result c =
    let bounds : NeverWraps c.args.self.frequency_shadow c.args.self.shift_n = never_wraps _ _ c.requires.shadow in omega (arith, bounds.sum)

pub returns-then-self : goal.returns-then-self
unfolding pick target_of
returns-then-self c = rw c.if-self.true

pub returns-else-self : goal.returns-else-self
unfolding pick target_of
returns-else-self c = rw c.if-self.false
