-- Each arm is the case of `stored_in` that the index is, and the index lands within the sixteen bytes. Assumes nothing.
use Rattle.channel_wave.specs.Wave.{stored}
use mathlib.Core.Path.{sym, ◌∙◌}
use Rattle.channel_wave.proofs.Ranges.{index_lands}
use Rattle.channel_wave.proofs.wave_channel.WaveChannel.write_buffer.Goals as goal

pub bounds-next-i : goal.bounds-next-i
bounds-next-i c =
    let index = c.wave_buffer_index in
    let args = c.args in
    rw (sym index.ensures ∙ c.in-Some.is) at (index_lands args.self args.dmg args.offset)

pub returns-in-Some : goal.returns-in-Some
unfolding stored
returns-in-Some c =
    let index = c.wave_buffer_index in
    rw (sym index.ensures ∙ c.in-Some.is)

pub returns-in_default : goal.returns-in_default
unfolding stored
returns-in_default c =
    let index = c.wave_buffer_index in
    rw (sym index.ensures ∙ c.in_default.is)
