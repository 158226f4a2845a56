-- The flag picks the volume or 0. Assumes nothing.
use borrow.Author.Rules.{rules}
use Rattle.channel_noise.specs.Noise.{output_of}
use Rattle.channel_noise.proofs.noise_channel.NoiseChannel.output_at.Statement.{statement}
use Rattle.channel_noise.proofs.noise_channel.NoiseChannel.output_at.Tie as tie

pub output_at_spec : {M : Type 1} → statement M
unfolding output_of
output_at_spec =
    tie.close
    (tie.spec
    (λ c κs. search rules)
    (λ c. rw c.flag.ensures.0))
