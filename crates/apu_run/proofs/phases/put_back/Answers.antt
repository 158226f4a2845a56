-- Each group is the definition's, and the counter beside them. Assumes nothing.

use Rattle.apu_run.proofs.phases.put_back.Goals as goal

pub with_phase-pulse1-requires : goal.with_phase-pulse1-requires
with_phase-pulse1-requires c = c.requires.pulse1

pub with_phase-pulse2-requires : goal.with_phase-pulse2-requires
with_phase-pulse2-requires c = c.requires.pulse2

pub with_phase-wave-requires : goal.with_phase-wave-requires
with_phase-wave-requires c = c.requires.wave

pub with_phase-noise-requires : goal.with_phase-noise-requires
with_phase-noise-requires c = c.requires.noise

pub returns : goal.returns
returns c =
    rw (
      c.group_with-next-4.ensures,
      c.group_with-next-3.ensures,
      c.group_with-next-2.ensures,
      c.group_with-next.ensures,
      c.with_phase-noise.ensures,
      c.with_phase-wave.ensures,
      c.with_phase-pulse2.ensures,
      c.with_phase-pulse1.ensures,
    )
