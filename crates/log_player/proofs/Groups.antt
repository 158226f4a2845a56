-- A write to one group's registers, with power on: it is the write of the whole unit, and makes no bytes. Assumes nothing.
use Prim.Native.Nat.{ℕ, ◌-◌, ◌%◌, ◌≤◌, ◌<◌}
use mathlib.Core.Path.{◌≡◌, refl, sym, ◌∙◌, subst}
use mathlib.Core.Bool.{Bool, true, false}
use mathlib.Core.List.{[]}
use native.Mathlib.Omega.{arith}
use borrow.Author.Tests.{lt-ltb, le-leb, ltb-true, ltb-false}
use lib.Dec.{eqb, ltb}
use Rattle.std.specs.Prelude.{Option, Some, None, Ok, Err}
use Rattle.ground.specs.Pick.{pick}
use Rattle.ground.proofs.Cases.{pick_holds}
use Rattle.clocks.specs.Position.{next_of, next_even}
use Rattle.channel_groups.specs.PulseGroups.{PulseGroup}
use Rattle.channel_groups.specs.WaveGroups.{WaveGroup}
use Rattle.channel_groups.specs.NoiseGroups.{NoiseGroup}
use Rattle.channel_groups.specs.PulseGroups as pulse
use Rattle.channel_groups.specs.WaveGroups as wave
use Rattle.channel_groups.specs.NoiseGroups as noise
use Rattle.apu.specs.With.{with_pulse1, with_pulse2, with_wave, with_noise}
use Rattle.apu.specs.Registers.{sound_written, gated_written, written_at, write_of}
use Rattle.apu.specs.declared.Apu.{Apu}
use Rattle.apu.proofs.Offsets.{at_pulse1, at_pulse2, at_wave, at_noise}
use Rattle.apu.proofs.Ranges.{write_held}
use Rattle.apu.proofs.Floats.{write_floats}
use Rattle.log_records.specs.Judge.{Judged}
use Rattle.log_records.specs.declared.judge.Record.TheVariants.{Write, Read, Clock, Pcm}
use Rattle.apu_run.proofs.Ranges.{Ready}
use Rattle.log_player.specs.declared.body.Group.{Group}
use Rattle.log_player.specs.declared.body.Group.TheVariants.{Pulse1, Pulse2, Wave, Noise}
use Rattle.log_player.specs.declared.body.GroupWrite.{GroupWrite}
use Rattle.log_player.specs.Playing.{bytes_of, unit_after}
use Rattle.log_player.specs.Bodies.{group_at, group_write_of}

-- ---- the unit with one group written
module _ (w : GroupWrite) (a : Apu) where
  abbrev even : Bool
  even = next_even a.sequencer_position

  abbrev pub pulse1_written : Apu
  pulse1_written = with_pulse1 a (pulse.written a.pulse1 w.offset true even w.value)

  abbrev pub pulse2_written : Apu
  pulse2_written = with_pulse2 a (pulse.written a.pulse2 w.offset true even w.value)

  abbrev pub wave_written : Apu
  wave_written = with_wave a (wave.written a.wave w.offset a.is_dmg even w.value)

  abbrev pub noise_written : Apu
  noise_written = with_noise a (noise.written a.noise w.offset even w.value)

  abbrev written_in : Group → Apu
  written_in Pulse1 = pulse1_written
  written_in Pulse2 = pulse2_written
  written_in Wave = wave_written
  written_in Noise = noise_written

  unfoldable pub group_written : Apu
  group_written = written_in w.group

-- in the place of the group, by the position that comes next
module _ (w : GroupWrite) (a : Apu) {n : ℕ} (next : n ≡ next_of a.sequencer_position) where
  pub pulse1_put : {g : PulseGroup} → w.group ≡ Pulse1 → g ≡ pulse.written a.pulse1 w.offset true (eqb (n % 2) 0) w.value
      → group_written w a ≡ with_pulse1 a g
  unfolding group_written
  pulse1_put e i = rw (e, i, next)

  pub pulse2_put : {g : PulseGroup} → w.group ≡ Pulse2 → g ≡ pulse.written a.pulse2 w.offset true (eqb (n % 2) 0) w.value
      → group_written w a ≡ with_pulse2 a g
  unfolding group_written
  pulse2_put e i = rw (e, i, next)

  pub wave_put : {g : WaveGroup} → w.group ≡ Wave → g ≡ wave.written a.wave w.offset a.is_dmg (eqb (n % 2) 0) w.value
      → group_written w a ≡ with_wave a g
  unfolding group_written
  wave_put e i = rw (e, i, next)

  pub noise_put : {g : NoiseGroup} → w.group ≡ Noise → g ≡ noise.written a.noise w.offset (eqb (n % 2) 0) w.value
      → group_written w a ≡ with_noise a g
  unfolding group_written
  noise_put e i = rw (e, i, next)

-- ---- what the unit's own write does at these addresses
module _ (a : Apu) (addr value : ℕ) (on : a.power ≡ true) (low : 0xFF11 ≤ addr) where
  abbrev at : ℕ
  at = addr - 0xFF10

  abbrev to : Group → ℕ → GroupWrite
  to group first = record { group = group; offset = addr - first; value = value }

  sound : addr < 0xFF24 → (write_of a addr value).apu ≡ sound_written a at value
  unfolding write_of written_at gated_written pick
  sound h =
      let least : 0xFF10 ≤ addr = omega arith in
      let most : addr ≤ 0xFF3F = omega arith in
      let near : at < 22 = omega arith in
      rw (le-leb 0xFF10 addr least, le-leb addr 0xFF3F most, lt-ltb at 22 near, on)

  to_pulse1 : addr < 0xFF15 → (write_of a addr value).apu ≡ group_written (to Pulse1 0xFF10) a
  unfolding sound_written group_written pick
  to_pulse1 h =
      let near : at < 5 = omega arith in
      sound (omega arith) ∙ rw (at_pulse1 at _ (λ (e : at ≡ 0). omega arith) near, on)

  to_pulse2 : 0xFF15 ≤ addr → addr < 0xFF1A → (write_of a addr value).apu ≡ group_written (to Pulse2 0xFF15) a
  unfolding sound_written group_written pick
  to_pulse2 l h =
      let far : 5 ≤ at = omega arith in
      let near : at < 10 = omega arith in
      let same : at - 5 ≡ addr - 0xFF15 = omega arith in
      sound (omega arith) ∙ rw (at_pulse2 at _ far near, on, same)

  to_wave : 0xFF1A ≤ addr → addr < 0xFF1F → (write_of a addr value).apu ≡ group_written (to Wave 0xFF1A) a
  unfolding sound_written group_written pick
  to_wave l h =
      let far : 10 ≤ at = omega arith in
      let near : at < 15 = omega arith in
      let same : at - 10 ≡ addr - 0xFF1A = omega arith in
      sound (omega arith) ∙ rw (at_wave at _ far near, same)

  to_noise : 0xFF1F ≤ addr → addr < 0xFF24 → (write_of a addr value).apu ≡ group_written (to Noise 0xFF1F) a
  unfolding sound_written group_written pick
  to_noise l h =
      let far : 15 ≤ at = omega arith in
      let near : at < 20 = omega arith in
      let same : at - 15 ≡ addr - 0xFF1F = omega arith in
      sound h ∙ rw (at_noise at _ far near, same)

-- ---- THE LAW: where a record is a write to a group, its unit is the unit with that group written
abbrev Wrote : Apu → ℕ → ℕ → Option GroupWrite → Type 0
Wrote a addr value None = 0 ≤ value
Wrote a addr value (Some w) = (w.value ≡ value) × ((write_of a addr value).apu ≡ group_written w a)

wrote : (a : Apu) (addr value : ℕ) → a.power ≡ true → Wrote a addr value (group_at addr value)
unfolding group_at
wrote a addr value on =
    pick_holds P (ltb addr 0xFF11) _ _ (λ _. none)
    (λ e. let low = ltb-false addr 0xFF11 e in
    pick_holds P (ltb addr 0xFF15) _ _ (λ f. (refl, to_pulse1 a addr value on low (ltb-true addr 0xFF15 f)))
    (λ f. pick_holds P (ltb addr 0xFF1A) _ _ (λ g. (refl, to_pulse2 a addr value on low (ltb-false addr 0xFF15 f) (ltb-true addr 0xFF1A g)))
    (λ g. pick_holds P (ltb addr 0xFF1F) _ _ (λ k. (refl, to_wave a addr value on low (ltb-false addr 0xFF1A g) (ltb-true addr 0xFF1F k)))
    (λ k. pick_holds P (ltb addr 0xFF24) _ _ (λ m. (refl, to_noise a addr value on low (ltb-false addr 0xFF1F k) (ltb-true addr 0xFF24 m)))
    (λ _. none)))))
  where
    P : Option GroupWrite → Type 0
    P = Wrote a addr value

    none : 0 ≤ value
    none = omega arith

pub record Grouped (x : Judged) (w : GroupWrite) (a : Apu) : Type 0 where
  pub quiet : bytes_of x a ≡ []
  pub is : unit_after x a ≡ group_written w a
  pub ready : Ready (unit_after x a)

-- no other record is one
none : {x : Judged} {a : Apu} (w : GroupWrite) → (b : Bool) → Some w ≡ pick b None None → Grouped x w a
unfolding pick
none w true e = let z : ◌≡◌ {A = ℕ} 0 1 = cc in absurd (omega arith)
none w false e = let z : ◌≡◌ {A = ℕ} 0 1 = cc in absurd (omega arith)

pub grouped : (x : Judged) (w : GroupWrite) (a : Apu) → Some w ≡ pick a.power (group_write_of x) None → w.value ≤ 255 → Ready a → Grouped x w a
unfolding pick
grouped (Ok (Write addr value)) w a e v h = go a.power refl e
  where
    go : (b : Bool) → a.power ≡ b → Some w ≡ pick b (group_at addr value) None → Grouped (Ok (Write addr value)) w a
    go true on i =
        let all = subst (Wrote a addr value) (sym i) (wrote a addr value on) in
        record {
          quiet = refl;
          is = all.1;
          ready = record { held = write_held a addr value (rw (← all.0) v) h.held; floats = write_floats a addr value h.floats };
        }
    go false off i = none w true i
grouped (Ok (Read addr)) w a e v h = none w a.power e
grouped (Ok (Clock double divider count)) w a e v h = none w a.power e
grouped (Ok Pcm) w a e v h = none w a.power e
grouped (Err fault) w a e v h = none w a.power e
