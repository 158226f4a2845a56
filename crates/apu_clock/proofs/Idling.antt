-- A step of the sequencer that idles moves the position alone. Assumes nothing.
use Prim.Native.Nat.{ℕ, zero, suc, ◌≤◌}
use mathlib.Core.Path.{◌≡◌, refl, sym, ◌∙◌, ap}
use mathlib.Core.Bool.{Bool, true, false, not, ◌&&◌, ◌||◌, true≢false, false≢true}
use native.Mathlib.Omega.{arith}
use borrow.Author.Tests.{ne_eqb}
use lib.Dec.{eqb}
use lib.IntN.{pos}
use Rattle.ground.specs.Pick.{pick}
use Rattle.ground.proofs.Cases.{pick_false}
use Rattle.clocks.specs.Position.{next_of}
use Rattle.channel_parts.specs.Length as lengths
use Rattle.channel_parts.specs.declared.length.Clocked.{Clocked}
use Rattle.channel_groups.specs.Groups as any
use Rattle.channel_groups.specs.Groups.{Kind}
use Rattle.channel_groups.specs.declared.group.Group.{Group}
use Rattle.channel_groups.specs.PulseGroups as pulse
use Rattle.channel_groups.specs.WaveGroups as wave
use Rattle.channel_groups.specs.NoiseGroups as noise
use Rattle.channel_groups.specs.PulseGroups.{PulseGroup}
use Rattle.channel_groups.specs.WaveGroups.{WaveGroup}
use Rattle.channel_groups.specs.NoiseGroups.{NoiseGroup}
use Rattle.apu.specs.With.{with_position}
use Rattle.apu.specs.declared.Apu.{Apu}
use Rattle.apu_clock.specs.Sequencer.{lengths_clocked, sweep_clocked, envelopes_clocked, advanced, counts_of, idles_of}

-- ---- a length clock where no length counts
still : {C M : Type 0} (k : Kind C M) (g : Group C) → g.length.counter_decrease_enable ≡ false
    → any.length_clocked k g ≡ any.with_channel g (k.switched g.channel (k.on g.channel))
unfolding any.length_clocked lengths.clocked
still k g e =
    let c = g.channel in
    ap (λ (x : Clocked). any.length_counted k g x c) (pick_false _ _ _ e)
    ∙ ap (λ (b : Bool). any.with_channel g (k.switched c b)) (and_true (k.on c))
  where
    and_true : (b : Bool) → (b && true) ≡ b
    and_true true = refl
    and_true false = refl

pulse_still : (g : PulseGroup) → g.length.counter_decrease_enable ≡ false → pulse.length_clocked g ≡ g
pulse_still = still pulse.kind

wave_still : (g : WaveGroup) → g.length.counter_decrease_enable ≡ false → wave.length_clocked g ≡ g
wave_still = still wave.kind

noise_still : (g : NoiseGroup) → g.length.counter_decrease_enable ≡ false → noise.length_clocked g ≡ g
noise_still = still noise.kind

none_of : (b d f g : Bool) → ((b || d) || (f || g)) ≡ false → (b ≡ false) × ((d ≡ false) × ((f ≡ false) × (g ≡ false)))
none_of true d f g e = absurd (true≢false e)
none_of false true f g e = absurd (true≢false e)
none_of false false true g e = absurd (true≢false e)
none_of false false false g e = (refl, (refl, (refl, e)))

lengths_still : (a : Apu) → counts_of a ≡ false → lengths_clocked a ≡ a
unfolding lengths_clocked counts_of
lengths_still a e =
    let off =
    none_of a.pulse1.length.counter_decrease_enable a.pulse2.length.counter_decrease_enable
    a.wave.length.counter_decrease_enable a.noise.length.counter_decrease_enable
    e in
    rw (
      pulse_still a.pulse1 off.0,
      pulse_still a.pulse2 off.1.0,
      wave_still a.wave off.1.1.0,
      noise_still a.noise off.1.1.1,
    )

-- ---- the step
pub record Idles (a : Apu) : Type 0 where
  pub next : next_of a.sequencer_position ≤ 7
  pub is : advanced a ≡ with_position a (pos (next_of a.sequencer_position))

pub idles : (a : Apu) → idles_of a ≡ true → Idles a
unfolding idles_of advanced pick
idles a e = let done = go (next_of a.sequencer_position) e in record { next = done.0; is = done.1 }
  where
    stays : not (counts_of a) ≡ true → counts_of a ≡ false
    stays = off (counts_of a)
      where
        off : (b : Bool) → not b ≡ true → b ≡ false
        off true e = cc
        off false e = refl

    beyond : (n : ℕ) → 7 ≤ n → pick (eqb n 2 || (eqb n 4 || eqb n 6)) true ((eqb n 1 || eqb n 5) && not (counts_of a)) ≡ false
    beyond n h =
        rw (
          ne_eqb n 2 (λ e. omega arith),
          ne_eqb n 4 (λ e. omega arith),
          ne_eqb n 6 (λ e. omega arith),
          ne_eqb n 1 (λ e. omega arith),
          ne_eqb n 5 (λ e. omega arith),
        )

    go : (n : ℕ) → pick (eqb n 2 || (eqb n 4 || eqb n 6)) true ((eqb n 1 || eqb n 5) && not (counts_of a)) ≡ true
        → (n ≤ 7)
        × (pick (eqb n 8) (with_position (envelopes_clocked a) (pos 0))
        (pick (eqb n 1 || eqb n 5) (with_position (lengths_clocked a) (pos n))
        (pick (eqb n 3 || eqb n 7) (with_position (lengths_clocked (sweep_clocked a)) (pos n)) (with_position a (pos n))))
        ≡ with_position a (pos n))
    go zero e = absurd (false≢true e)
    go (suc zero) e = (omega arith, ap (λ (x : Apu). with_position x (pos 1)) (lengths_still a (stays e)))
    go (suc (suc zero)) e = (omega arith, refl)
    go (suc (suc (suc zero))) e = absurd (false≢true e)
    go (suc (suc (suc (suc zero)))) e = (omega arith, refl)
    go (suc (suc (suc (suc (suc zero))))) e = (omega arith, ap (λ (x : Apu). with_position x (pos 5)) (lengths_still a (stays e)))
    go (suc (suc (suc (suc (suc (suc zero)))))) e = (omega arith, refl)
    go (suc (suc (suc (suc (suc (suc (suc n))))))) e = absurd (false≢true (sym (beyond (suc (suc (suc (suc (suc (suc (suc n))))))) (omega arith)) ∙ e))
