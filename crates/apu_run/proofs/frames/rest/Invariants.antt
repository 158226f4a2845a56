-- What is left to do, with all the channels' clocks still to come, comes to the whole; with each frame less is left. Assumes nothing.
use Rattle.apu_run.proofs.Resting.{Resting}
use Rattle.apu_run.proofs.frames.rest.Given as goal

abbrev pub invariant-loop-due : goal.invariant-loop-due
invariant-loop-due l = Resting (record { unit = l.unit; count = l.count; out = l.initial.out; start = l.start })
    (record { out = l.out; units = l.units; due = l.due; left = l.left; at = l.at; waiting = l.waiting })

abbrev pub decreases-loop-due : goal.decreases-loop-due
decreases-loop-due l = l.left
