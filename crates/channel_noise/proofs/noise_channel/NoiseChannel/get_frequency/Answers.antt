-- The list is read at what FF22 reads as, whose reload is the channel's. Assumes nothing.
use mathlib.Core.Path.{◌∙◌, ap}
use Rattle.channel_noise.specs.Noise.{reload_at}
use Rattle.channel_noise.proofs.Table.{byte_reload}
use Rattle.channel_noise.proofs.noise_channel.NoiseChannel.get_frequency.Goals as goal

pub returns : goal.returns
returns c = c.reload_at.ensures ∙ ap reload_at c.read_noise_register-ff22.ensures ∙ byte_reload _ c.requires
