-- A channel with its own position is itself. Assumes nothing.
use Rattle.channel_pulse.proofs.Phases.{own_held}
use Rattle.channel_pulse.proofs.pulse_channel.PulseChannel.output.Goals as goal

pub phase-requires : goal.phase-requires
phase-requires c = c.requires

pub output_at-requires : goal.output_at-requires
output_at-requires c = rw c.phase.ensures (own_held c.args.self c.requires)

pub returns : goal.returns
returns c = rw (c.output_at.ensures, c.phase.ensures)
