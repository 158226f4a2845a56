-- A clock call by the divider bit that it sees: a working clock of it, whatever the bit, is one of the run's, after which the bit is stored. Assumes nothing.
use Prim.Native.Nat.{ℕ, ◌+◌, ◌-◌}
use mathlib.Core.Path.{◌≡◌, refl, sym, ap, ◌∙◌}
use mathlib.Core.Bool.{Bool, true, false, not, ◌&&◌}
use mathlib.Core.List.{List, [], ◌++◌, append-nil}
use lib.Dec.{ltb}
use lib.Ieee.{Float, binary32, of_bits}
use Rattle.ground.specs.Pick.{pick}
use Rattle.ground.proofs.Cases.{pick_true, pick_false}
use Rattle.ground.proofs.Timers.{pick_ap}
use Rattle.clocks.specs.Counter.{every_at, tick_by}
use Rattle.clocks.specs.Calls.{half_clocks_of}
use Rattle.frame.specs.Buffers.{room_in, room_in_all, framed}
use Rattle.log_items.specs.Items.{frame_item, mix_item}
use Rattle.log_items.proofs.Mixes.{mix-item}
use Rattle.apu.specs.With.{with_clocks, with_bit}
use Rattle.apu.specs.declared.Apu.{Apu}
use Rattle.apu_clock.specs.Sequencer.{bit_of, lengths_clocked, sweep_clocked, envelopes_clocked, advanced, sequenced, channels_clocked, finished}
use Rattle.apu_clock.specs.Clocking.{After, pushed, passed, frame_of, clock_of}
use Rattle.apu_clock.specs.Clocking as clocking
use Rattle.std.specs.Prelude.{Ok}
use Rattle.apu_run.specs.Working.{passing, working, working_bytes, Take}
use Rattle.apu_clock.specs.Clocking.{lent}
use Rattle.apu_run.specs.Calls.{answer_bytes, call_bytes, call_unit}
use Rattle.apu_run.proofs.Rows.{call_on}

-- ---- the bit stored: nothing with power off, and a fall moves the sequencer
unfoldable pub bit_stored : Bool → Apu → Apu
bit_stored bit a = pick a.power (pick (a.divider_sequencer_clock_bit && not bit) (advanced (with_bit a bit)) (with_bit a bit)) a

-- what follows the sample counter: the channels, then the bit
finished_is : (a : Apu) (double : Bool) (divider : ℕ) → finished a double divider ≡ bit_stored (bit_of double divider) (passing a)
unfolding finished passing bit_stored sequenced channels_clocked pick
finished_is a double divider = go a.power refl
  where
    go : (on : Bool) → a.power ≡ on
        → pick on (sequenced (channels_clocked a) double divider) a ≡ bit_stored (bit_of double divider) (pick on (channels_clocked a) a)
    go true e = sym (pick_true _ _ _ e)
    go false e = sym (pick_false _ _ _ e)

-- ---- half-clocks are beside all this
abbrev pub with_half : Apu → ℕ → Apu
with_half a half = with_clocks a a.sample_counter half

abbrev pub with_halves : Take → ℕ → Take
with_halves t half = record { apu = with_half t.apu half; bytes = t.bytes }

pub advanced_half : (a : Apu) (h : ℕ) → advanced (with_half a h) ≡ with_half (advanced a) h
unfolding advanced lengths_clocked sweep_clocked envelopes_clocked
advanced_half a h =
    ap (pick _ _) (ap (pick _ _) (pick_ap (λ (x : Apu). with_half x h) _ _ _) ∙ pick_ap (λ (x : Apu). with_half x h) _ _ _)
    ∙ pick_ap (λ (x : Apu). with_half x h) _ _ _

pub stored_half : (bit : Bool) (a : Apu) (h : ℕ) → bit_stored bit (with_half a h) ≡ with_half (bit_stored bit a) h
unfolding bit_stored
stored_half bit a h =
    ap (λ (x : Apu). pick a.power (pick (a.divider_sequencer_clock_bit && not bit) x (with_half (with_bit a bit) h)) (with_half a h))
    (advanced_half (with_bit a bit) h)
    ∙ ap (λ (x : Apu). pick a.power x (with_half a h)) (pick_ap (λ (x : Apu). with_half x h) _ _ _)
    ∙ pick_ap (λ (x : Apu). with_half x h) _ _ _

passing_half : (a : Apu) (c : Float) (h k : ℕ) → passing (with_clocks a c k) ≡ with_half (passing (with_clocks a c h)) k
unfolding passing channels_clocked
passing_half a c h k = pick_ap (λ (x : Apu). with_half x k) a.power (channels_clocked (with_clocks a c h)) (with_clocks a c h)

-- ---- a working clock that sees a bit
abbrev pub beaten : Bool → Take → Take
beaten bit t = record { apu = bit_stored bit (working t.apu); bytes = t.bytes ++ working_bytes t.apu }

-- what a call left, on a unit and the bytes before
abbrev left : Take → After → Take
left t r = record { apu = r.clocked.apu; bytes = t.bytes ++ answer_bytes r.clocked.answer r.buffers }

module _ (double : Bool) (divider : ℕ) where
  finished_half : (a : Apu) (c : Float) (h k : ℕ)
      → finished (with_clocks a c k) double divider ≡ with_half (bit_stored (bit_of double divider) (passing (with_clocks a c h))) k
  finished_half a c h k =
      finished_is (with_clocks a c k) double divider
      ∙ ap (bit_stored (bit_of double divider)) (passing_half a c h k)
      ∙ stored_half (bit_of double divider) (passing (with_clocks a c h)) k

  worked_is : (t : Take) (h : ℕ) → left t (clocking.worked t.apu h double divider 0 lent) ≡ with_halves (beaten (bit_of double divider) t) h
  unfolding clocking.worked clocking.frame_due frame_of passed working working_bytes pushed room_in room_in_all pick
  worked_is t h = go (tick_by (every_at 44100) t.apu.sample_counter).made
    where
      a : Apu
      a = t.apu

      bit : Bool
      bit = bit_of double divider

      c : Float
      c = (tick_by (every_at 44100) a.sample_counter).counter

      f : Apu
      f = (pushed a).apu

      zero₃₂ : Float
      zero₃₂ = of_bits binary32 0

      go : (m : Bool)
          → left t (pick m (clocking.frame_due a c h double divider 0 lent) (clocking.answered (Ok false) (passed a c h double divider) lent))
          ≡ record {
            apu = with_half (bit_stored bit (passing (with_clocks (pick m f a) c a.clocks_counter))) h;
            bytes = t.bytes ++ pick m (mix_item (pushed a).mix) [];
          }
      go true =
          ap (λ (x : Apu). record { apu = x; bytes = t.bytes ++ frame_item (framed (pushed a).mix 0 lent) }) (finished_half f c a.clocks_counter h)
          ∙ ap (λ (l : List ℕ). record { apu = with_half (bit_stored bit (passing (with_clocks f c a.clocks_counter))) h; bytes = t.bytes ++ l })
          (mix-item zero₃₂ zero₃₂ (pushed a).mix)
      go false = ap (λ (x : Apu). record { apu = x; bytes = t.bytes ++ [] }) (finished_half a c a.clocks_counter h)

-- ---- a call by its bit
abbrev pub call_by : Bool → Bool → Take → Take
call_by double bit t =
    let half = t.apu.clocks_counter + half_clocks_of double in pick (ltb half 2) (with_halves t half) (with_halves (beaten bit t) (half - 2))

pub call-by : (double : Bool) (divider : ℕ) (t : Take) → call_on double divider t ≡ call_by double (bit_of double divider) t
unfolding call_unit call_bytes clock_of pick
call-by double divider t = go (ltb half 2)
  where
    a : Apu
    a = t.apu

    half : ℕ
    half = a.clocks_counter + half_clocks_of double

    go : (b : Bool)
        → left t (pick b (clocking.answered (Ok false) (with_clocks a a.sample_counter half) lent) (clocking.worked a (half - 2) double divider 0 lent))
        ≡ pick b (with_halves t half) (with_halves (beaten (bit_of double divider) t) (half - 2))
    go true = ap (λ (l : List ℕ). record { apu = with_half a half; bytes = l }) (append-nil t.bytes)
    go false = worked_is double divider t (half - 2)
