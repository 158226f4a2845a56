-- What the rules make of a record that holds its ranges holds them again: a law for each definition. Assumes nothing.
use mathlib.Core.Path.{refl}
use mathlib.Core.Bool.{Bool}
use Prim.Native.Nat.{ℕ, ◌+◌, ◌-◌, ◌≤◌}
use native.Mathlib.Omega.{arith}
use borrow.Author.Tests.{ltb-true}
use lib.Dec.{eqb, ltb}
use Rattle.ground.specs.Num.{zero_as_eight}
use Rattle.ground.proofs.Cases.{pick_holds, both_ways}
use Rattle.channel_parts.specs.Envelope as envelope
use Rattle.channel_parts.specs.Length as lengths
use Rattle.channel_parts.specs.declared.envelope.Envelope.{Envelope}
use Rattle.channel_parts.specs.declared.length.Length.{Length}
use Rattle.channel_parts.specs.declared.length.Clocked.{Clocked}

pub reload_le : (p : ℕ) → p ≤ 7 → zero_as_eight p ≤ 8
unfolding zero_as_eight
reload_le p h = both_ways (λ (n : ℕ). n ≤ 8) (eqb p 0) (omega arith) (omega arith)

-- ---- the envelope
pub envelope_fresh_held : envelope.Held envelope.fresh
envelope_fresh_held = search arith

pub envelope_written_held : (e : Envelope) (v : ℕ) → v ≤ 255 → envelope.Held (envelope.written e v)
envelope_written_held e v h = search arith

pub envelope_triggered_held : (e : Envelope) → envelope.Held e → envelope.Held (envelope.triggered e)
envelope_triggered_held e h = search arith

step_volume_le : (v : ℕ) (up : Bool) → v ≤ 15 → envelope.step_volume v up ≤ 15
unfolding envelope.step_volume
step_volume_le v up h =
    both_ways (λ (n : ℕ). n ≤ 15) up
    (pick_holds (λ (n : ℕ). n ≤ 15) (ltb v 15) (v + 1) v (λ e. omega (arith, ltb-true v 15 e)) (λ _. h))
    (omega arith)

stepped_held : (e : Envelope) → envelope.Held e → envelope.Held (envelope.stepped e)
unfolding envelope.stepped
stepped_held e h =
    record {
      starting = h.starting;
      current = step_volume_le e.current_volume e.sweep_increase h.current;
      period = h.period;
      counter = h.counter;
    }

counter_held : (e : Envelope) (n : ℕ) → envelope.Held e → n ≤ 8 → envelope.Held (envelope.with_counter e n)
counter_held e n h k = record { starting = h.starting; current = h.current; period = h.period; counter = k }

pub envelope_clocked_held : (e : Envelope) → envelope.Held e → envelope.Held (envelope.clocked e)
unfolding envelope.clocked envelope.expired
envelope_clocked_held e h =
    let next = counter_held e (zero_as_eight e.period) h (reload_le e.period h.period) in
    both_ways envelope.Held _ (both_ways envelope.Held _ (stepped_held _ next) next) (counter_held e (e.counter - 1) h (omega arith))

-- ---- the length record, of any maximum
module _ (most : ℕ) (l : Length) (h : lengths.Held most l) where
  pub length_written_held : (v : ℕ) → lengths.Held most (lengths.written l v)
  length_written_held v = record { max = h.max; length = omega arith; counter = omega arith }

  pub length_reset_held : lengths.Held most (lengths.reset l)
  length_reset_held = record { max = h.max; length = omega arith; counter = omega arith }

  pub length_clocked_held : lengths.Held most (lengths.clocked l).length
  unfolding lengths.clocked
  length_clocked_held = both_ways (λ (r : Clocked). lengths.Held most r.length) _ (record { max = h.max; length = h.length; counter = omega arith }) h

  pub length_triggered_held : (even : Bool) → lengths.Held most (lengths.triggered l even)
  unfolding lengths.triggered
  length_triggered_held even = both_ways (lengths.Held most) _ (record { max = h.max; length = h.length; counter = omega arith }) h

pub length_fresh_held : (most : ℕ) → lengths.Held most (lengths.fresh most)
length_fresh_held most = record { max = refl; length = omega arith; counter = omega arith }

pub length_enabling_held : (most : ℕ) (l : Length) (enable even : Bool) → lengths.Held most l → lengths.Held most (lengths.enabling l enable even).length
unfolding lengths.enabling
length_enabling_held most l enable even h =
    let next : lengths.Held most (lengths.with_enable l enable) = record { max = h.max; length = h.length; counter = h.counter } in
    both_ways (λ (r : Clocked). lengths.Held most r.length) _ (length_clocked_held most (lengths.with_enable l enable) next) next
