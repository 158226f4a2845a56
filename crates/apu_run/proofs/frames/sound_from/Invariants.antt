-- What is left to do, from where the loop stands, comes to the whole; with each frame less is left. Assumes nothing.
use Rattle.apu_run.proofs.Running.{Running}
use Rattle.apu_run.proofs.frames.sound_from.Given as goal

abbrev pub invariant-loop-known : goal.invariant-loop-known
invariant-loop-known l = Running
    (record {
      ahead = l.ahead;
      count = l.count;
      waiting = l.waiting;
      out = l.initial.out;
      start = l.start;
      settings = l.settings;
      frame_settings = l.frame_settings;
      phases = l.initial.phases;
      converters = l.initial.converters;
    })
    (record {
      out = l.out;
      phases = l.phases;
      converters = l.converters;
      units = l.units;
      due = l.due;
      left = l.left;
      at = l.at;
      pending = l.pending;
      levels = l.levels;
      known = l.known;
    })

abbrev pub decreases-loop-known : goal.decreases-loop-known
decreases-loop-known l = l.left
