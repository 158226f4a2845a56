-- No write touches a group's converter. Assumes nothing.
use mathlib.Core.Path.{◌≡◌, refl}
use mathlib.Core.Bool.{Bool}
use Prim.Native.Nat.{ℕ}
use Rattle.ground.proofs.Cases.{both_ways}
use Rattle.channel_groups.specs.Groups as any
use Rattle.channel_groups.specs.PulseGroups as pulse
use Rattle.channel_groups.specs.WaveGroups as wave
use Rattle.channel_groups.specs.NoiseGroups as noise
use Rattle.channel_groups.specs.PulseGroups.{PulseGroup}
use Rattle.channel_groups.specs.WaveGroups.{WaveGroup}
use Rattle.channel_groups.specs.NoiseGroups.{NoiseGroup}

pub pulse_untouched : (g : PulseGroup) (at : ℕ) (power even : Bool) (v : ℕ) → (pulse.written g at power even v).converter ≡ g.converter
unfolding pulse.written pulse.length_written pulse.envelope_written pulse.tuned any.controlled any.triggered any.readied
pulse_untouched g at power even v =
    let Same : PulseGroup → Type 0 = λ (r : PulseGroup). r.converter ≡ g.converter in
    both_ways Same _ refl (both_ways Same _ refl (both_ways Same _ refl (both_ways Same _ (both_ways Same _ refl refl) refl)))

pub wave_untouched : (g : WaveGroup) (at : ℕ) (dmg even : Bool) (v : ℕ) → (wave.written g at dmg even v).converter ≡ g.converter
unfolding wave.written wave.dac_written wave.length_written wave.volume_written wave.tuned any.controlled any.triggered any.readied
wave_untouched g at dmg even v =
    let Same : WaveGroup → Type 0 = λ (r : WaveGroup). r.converter ≡ g.converter in
    both_ways Same _ refl (both_ways Same _ refl (both_ways Same _ refl (both_ways Same _ refl (both_ways Same _ (both_ways Same _ refl refl) refl))))

pub noise_untouched : (g : NoiseGroup) (at : ℕ) (even : Bool) (v : ℕ) → (noise.written g at even v).converter ≡ g.converter
unfolding noise.written noise.length_written noise.envelope_written noise.noise_written any.controlled any.triggered any.readied
noise_untouched g at even v =
    let Same : NoiseGroup → Type 0 = λ (r : NoiseGroup). r.converter ≡ g.converter in
    both_ways Same _ refl (both_ways Same _ refl (both_ways Same _ refl (both_ways Same _ (both_ways Same _ refl refl) refl)))
