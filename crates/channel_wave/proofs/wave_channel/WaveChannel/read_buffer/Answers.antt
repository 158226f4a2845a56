-- Each arm is the case of `byte_in` that the index is, and the index lands within the sixteen bytes. Assumes nothing.
use Rattle.channel_wave.specs.Wave.{byte_at}
use mathlib.Core.Path.{sym, ◌∙◌}
use Rattle.channel_wave.proofs.Ranges.{index_lands}
use Rattle.channel_wave.proofs.wave_channel.WaveChannel.read_buffer.Goals as goal

pub bounds-self-i : goal.bounds-self-i
bounds-self-i c =
    let index = c.wave_buffer_index in
    let args = c.args in
    rw (sym index.ensures ∙ c.in-Some.is) at (index_lands args.self args.dmg args.offset)

pub returns-in-Some : goal.returns-in-Some
unfolding byte_at
returns-in-Some c =
    let index = c.wave_buffer_index in
    rw (sym index.ensures ∙ c.in-Some.is)

pub returns-in-None : goal.returns-in-None
unfolding byte_at
returns-in-None c =
    let index = c.wave_buffer_index in
    rw (sym index.ensures ∙ c.in-None.is)
