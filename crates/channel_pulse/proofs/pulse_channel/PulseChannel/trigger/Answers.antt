-- Envelope and sweep are the ones triggered, by what their calls ensure. Assumes nothing.
use Rattle.channel_pulse.specs.Pulse.{triggered}
use Rattle.channel_pulse.proofs.pulse_channel.PulseChannel.trigger.Goals as goal

pub returns : goal.returns
unfolding triggered
returns c =
    let reload = c.reload in
    let sweep = c.sweep_trigger-checked in
    let envelope = c.trigger in
    rw (reload.ensures, sweep.ensures, envelope.ensures)
