-- A channel with its own position is itself. Assumes nothing.
use Rattle.channel_wave.proofs.Phases.{own_held}
use Rattle.channel_wave.proofs.wave_channel.WaveChannel.output.Goals as goal

pub output_at-requires : goal.output_at-requires
output_at-requires c = record { held = c.requires; wave_phase_held = rw c.phase.ensures (own_held c.args.self c.requires) }

pub returns : goal.returns
returns c = rw (c.output_at.ensures, c.phase.ensures)
