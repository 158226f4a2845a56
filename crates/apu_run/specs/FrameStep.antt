-- A frame from what was taken out of the unit: each converter's step, and the ten numbers. Assumes nothing.
use Rattle.frame.specs.Mixing.{voiced, mixed}
use Rattle.channel_pulse.specs.Pulse as pulse
use Rattle.channel_pulse.specs.Phase.{with_pulse_phase}
use Rattle.channel_wave.specs.Wave as wave
use Rattle.channel_wave.specs.Phase.{with_wave_phase}
use Rattle.channel_noise.specs.Noise as noise
use Rattle.channel_noise.specs.Phase.{with_noise_phase}
use Rattle.apu_run.specs.declared.phases.Phases.{Phases}
use Rattle.apu_run.specs.declared.phases.Settings.{Settings}
use Rattle.apu_run.specs.declared.phases.Converters.{Converters}
use Rattle.apu_run.specs.declared.frame_step.FrameStep.{FrameStep}

-- "Every channel's converter steps once per frame"
unfoldable pub frame_step_of : Settings → Phases → Converters → FrameStep
frame_step_of s m k =
    let control = s.channels_control in
    let selection = s.channels_selection in
    let p = voiced k.pulse1 (pulse.output_of (with_pulse_phase s.pulse1 m.pulse1)) (pulse.muted_of s.pulse1) control selection 0 in
    let q = voiced k.pulse2 (pulse.output_of (with_pulse_phase s.pulse2 m.pulse2)) (pulse.muted_of s.pulse2) control selection 1 in
    let w = voiced k.wave (wave.output_of (with_wave_phase s.wave m.wave)) (wave.muted_of s.wave) control selection 2 in
    let n = voiced k.noise (noise.output_of (with_noise_phase s.noise m.noise)) (noise.muted_of s.noise) control selection 3 in
    record {
      converters = record { pulse1 = p.converter; pulse2 = q.converter; wave = w.converter; noise = n.converter };
      mix = mixed p.sides q.sides w.sides n.sides;
    }
