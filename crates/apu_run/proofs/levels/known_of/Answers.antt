-- By the choice; the sum fits, since the wave's timer is short. Assumes nothing.
use native.Mathlib.Omega.{arith}
use Rattle.ground.specs.Pick.{pick}
use Rattle.apu_run.specs.FrameSettings.{known_of}
use Rattle.apu_run.proofs.Calm.{calm_few}
use Rattle.apu_run.proofs.levels.known_of.Goals as goal

pub returns-then-fast : goal.returns-then-fast
unfolding known_of pick
returns-then-fast c = rw c.if-fast.true

pub overflow_add-result : goal.overflow_add-result
overflow_add-result c =
    let args = c.args in
    let pre = c.requires in
    let few = calm_few args.settings args.t args.m pre.phases_held in
    omega (arith, c.calm_of.ensures, few)

pub returns : goal.returns
unfolding known_of pick
returns c = rw (c.if-fast.false, c.calm_of.ensures)
