-- What no write and no power change touches: the half-clocks, the sample counter and the four converters. Assumes nothing.
use mathlib.Core.Path.{◌≡◌, refl, ◌∙◌}
use mathlib.Core.Bool.{Bool}
use Prim.Native.Nat.{ℕ, zero, suc, ◌-◌}
use Rattle.ground.proofs.Cases.{both_ways}
use Rattle.channel_groups.specs.Groups as any
use Rattle.channel_groups.specs.PulseGroups as pulse
use Rattle.channel_groups.specs.WaveGroups as wave
use Rattle.channel_groups.specs.PulseGroups.{PulseGroup}
use Rattle.channel_groups.specs.WaveGroups.{WaveGroup}
use Rattle.channel_groups.specs.NoiseGroups.{NoiseGroup}
use Rattle.channel_groups.proofs.Untouched.{pulse_untouched, wave_untouched, noise_untouched}
use Rattle.apu.specs.Registers.{sound_written, gated_written, ram_written, power_written, written_at, write_of}
use Rattle.apu.specs.Registers.{zeroed, silenced, powered_off, restarted, refilled, powered_on}
use Rattle.apu.specs.With.{with_groups, with_unit_registers}
use Rattle.apu.specs.declared.Apu.{Apu}
use Rattle.apu.proofs.Offsets.{of_each}
use Rattle.apu.specs.declared.registers.Written.{Written}

pub record Untouched (a b : Apu) : Type 0 where
  pub half : b.clocks_counter ≡ a.clocks_counter
  pub counter : b.sample_counter ≡ a.sample_counter
  pub pulse1 : b.pulse1.converter ≡ a.pulse1.converter
  pub pulse2 : b.pulse2.converter ≡ a.pulse2.converter
  pub wave : b.wave.converter ≡ a.wave.converter
  pub noise : b.noise.converter ≡ a.noise.converter

pub same : (a : Apu) → Untouched a a
same a = record { half = refl; counter = refl; pulse1 = refl; pulse2 = refl; wave = refl; noise = refl }

pub then : {a b c : Apu} → Untouched a b → Untouched b c → Untouched a c
then p q = record {
  half = q.half ∙ p.half;
  counter = q.counter ∙ p.counter;
  pulse1 = q.pulse1 ∙ p.pulse1;
  pulse2 = q.pulse2 ∙ p.pulse2;
  wave = q.wave ∙ p.wave;
  noise = q.noise ∙ p.noise;
}

-- ---- a row of fields written anew, with the converters as they were
module _ (a : Apu) where
  regrouped : (p q : PulseGroup) (w : WaveGroup) (n : NoiseGroup)
      → p.converter ≡ a.pulse1.converter → q.converter ≡ a.pulse2.converter → w.converter ≡ a.wave.converter → n.converter ≡ a.noise.converter
      → Untouched a (with_groups a p q w n)
  regrouped p q w n first second third fourth = record { half = refl; counter = refl; pulse1 = first; pulse2 = second; wave = third; noise = fourth }

  unit_registers : (control selection : ℕ) (on : Bool) → Untouched a (with_unit_registers a control selection on)
  unit_registers control selection on = record { half = refl; counter = refl; pulse1 = refl; pulse2 = refl; wave = refl; noise = refl }

sound : (a : Apu) (at v : ℕ) → Untouched a (sound_written a at v)
unfolding sound_written pulse.sweep_written
sound a at v =
    of_each at _ (Untouched a)
    (regrouped a _ _ _ _ refl refl refl refl)
    (regrouped a _ _ _ _ (pulse_untouched a.pulse1 at a.power _ v) refl refl refl)
    (regrouped a _ _ _ _ refl (pulse_untouched a.pulse2 (at - 5) a.power _ v) refl refl)
    (regrouped a _ _ _ _ refl refl (wave_untouched a.wave (at - 10) a.is_dmg _ v) refl)
    (regrouped a _ _ _ _ refl refl refl (noise_untouched a.noise (at - 15) _ v))
    (both_ways (Untouched a) _ (unit_registers a v _ _) (unit_registers a _ v _))

zeroes : (a : Apu) (n : ℕ) → Untouched a (zeroed a n)
unfolding zeroed
zeroes a zero = same a
zeroes a (suc n) = then (zeroes a n) (sound (zeroed a n) n 0)

silent : (a : Apu) → Untouched a (silenced a)
unfolding silenced any.silenced
silent a = then (regrouped a _ _ _ _ refl refl refl refl) (unit_registers _ _ _ _)

started : (a : Apu) → Untouched a (restarted a)
unfolding restarted pulse.rewound wave.rewound
started a = record { half = refl; counter = refl; pulse1 = refl; pulse2 = refl; wave = refl; noise = refl }

full : (a : Apu) → Untouched a (refilled a)
unfolding refilled any.refilled
full a = regrouped a _ _ _ _ refl refl refl refl

gated : (a : Apu) (at v : ℕ) → Untouched a (gated_written a at v)
unfolding gated_written
gated a at v = both_ways (Untouched a) _ (sound a at v) (both_ways (Untouched a) _ (sound a at v) (same a))

powered : (a : Apu) (v : ℕ) → Untouched a (power_written a v)
unfolding power_written powered_on powered_off
powered a v =
    both_ways (Untouched a) _
    (both_ways (Untouched a) _ (same a) (both_ways (Untouched a) _ (started a) (then (started a) (full (restarted a)))))
    (both_ways (Untouched a) _ (then (zeroes a 22) (silent (zeroed a 22))) (same a))

stored : (a : Apu) (at v : ℕ) → Untouched a (ram_written a at v)
unfolding ram_written wave.ram_written
stored a at v = regrouped a _ _ _ _ refl refl refl refl

-- a write, accepted or refused
pub write_untouched : (a : Apu) (addr v : ℕ) → Untouched a (write_of a addr v).apu
unfolding write_of written_at
write_untouched a addr v =
    both_ways (λ (w : Written). Untouched a w.apu) _
    (both_ways (Untouched a) _ (gated a (addr - 0xFF10) v)
    (both_ways (Untouched a) _ (powered a v)
    (both_ways (Untouched a) _ (same a) (stored a (addr - 0xFF10) v))))
    (same a)
