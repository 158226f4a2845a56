-- Calls that see one divider bit are so many working clocks, of which only the first can move the sequencer. Assumes nothing.
use Prim.Native.Nat.{ℕ, zero, suc, ◌+◌, ◌-◌, ◌*◌, ◌/◌, ◌%◌, ◌<◌, ◌≤◌}
use mathlib.Core.Path.{◌≡◌, refl, sym, ap, ap₂, ◌∙◌}
use mathlib.Core.Bool.{Bool, true, false, not, ◌&&◌, ◌||◌}
use mathlib.Core.List.{◌++◌}
use native.Mathlib.Nat.{mul-one, add-zero}
use native.Mathlib.Omega.{arith}
use borrow.Author.Tests.{ne_eqb}
use lib.Dec.{eqb, ltb}
use Rattle.ground.specs.Pick.{pick}
use Rattle.ground.specs.Iterate.{iterate}
use Rattle.ground.proofs.Cases.{pick_true, pick_false, pick_holds, both_ways, and_left, and_right}
use Rattle.ground.proofs.Timers.{iterate_add}
use Rattle.clocks.specs.Calls.{half_clocks_of}
use Rattle.clocks.specs.Metered.{gained}
use Rattle.clocks.proofs.Halves.{worked}
use Rattle.apu.specs.With.{with_bit}
use Rattle.apu.specs.declared.Apu.{Apu}
use Rattle.apu_clock.specs.Sequencer.{lengths_clocked, sweep_clocked, envelopes_clocked, advanced}
use Rattle.apu_run.specs.Working.{working, working_bytes, Take, working_on}
use Rattle.apu_run.specs.Owed.{met_of, fallen}
use Rattle.apu_run.specs.declared.calls.Met.{Met}
use Rattle.apu_run.proofs.Beats.{bit_stored, with_halves, advanced_half, stored_half, beaten, call_by}
use Rattle.apu_run.proofs.Marks.{marked_take, working_marked, working_own, working_half, working_power, ran_marked, ran_own, ran_half, ran_power}

-- ---- what storing a bit comes to: a step of the sequencer where it falls, else another bit at most
stored_fell : (bit : Bool) (a : Apu) → (a.power && (a.divider_sequencer_clock_bit && not bit)) ≡ true → bit_stored bit a ≡ fallen a
unfolding bit_stored
stored_fell bit a e =
    let on = and_left a.power (a.divider_sequencer_clock_bit && not bit) e in
    let down = and_right a.power (a.divider_sequencer_clock_bit && not bit) e in
    pick_true _ _ _ on ∙ pick_true _ _ _ down ∙ ap (λ (x : Bool). advanced (with_bit a x)) (low a.divider_sequencer_clock_bit bit down)
  where
    low : (x b : Bool) → (x && not b) ≡ true → b ≡ false
    low x false h = refl
    low true true h = sym h
    low false true h = sym h

stored_on : (bit : Bool) (a : Apu) → (a.power && (a.divider_sequencer_clock_bit && not bit)) ≡ false
    → bit_stored bit a ≡ with_bit a (a.divider_sequencer_clock_bit || (a.power && bit))
unfolding bit_stored pick
stored_on bit a e = go a.power a.divider_sequencer_clock_bit bit refl e
  where
    go : (on x b : Bool) → a.divider_sequencer_clock_bit ≡ x → (on && (x && not b)) ≡ false
        → pick on (pick (x && not b) (advanced (with_bit a b)) (with_bit a b)) a ≡ with_bit a (x || (on && b))
    go false true b h e = ap (with_bit a) h
    go false false b h e = ap (with_bit a) h
    go true true true h e = refl
    go true true false h e = cc
    go true false true h e = refl
    go true false false h e = refl

-- ---- once it is stored, or where power is off, nothing more comes of it
abbrev Calm : Bool → Apu → Type 0
Calm bit a = a.power ≡ true → a.divider_sequencer_clock_bit ≡ bit

advanced_bit : (x : Apu) → (advanced x).divider_sequencer_clock_bit ≡ x.divider_sequencer_clock_bit
unfolding advanced lengths_clocked sweep_clocked envelopes_clocked
advanced_bit x = both_ways Same _ refl (both_ways Same _ refl (both_ways Same _ refl refl))
  where
    Same : Apu → Type 0
    Same y = y.divider_sequencer_clock_bit ≡ x.divider_sequencer_clock_bit

stored_calm : (bit : Bool) (a : Apu) → Calm bit (bit_stored bit a)
unfolding bit_stored
stored_calm bit a =
    pick_holds (Calm bit) _ _ _
    (λ _. both_ways (Calm bit) _ (λ _. advanced_bit (with_bit a bit)) (λ _. refl))
    (λ off on. let e : false ≡ true = sym off ∙ on in cc)

calm_stored : (bit : Bool) (a : Apu) → Calm bit a → bit_stored bit a ≡ a
unfolding bit_stored
calm_stored bit a calm =
    pick_holds (λ (x : Apu). x ≡ a) _ _ _
    (λ on. let e = calm on in pick_false _ _ _ (level a.divider_sequencer_clock_bit bit e) ∙ ap (with_bit a) (sym e))
    (λ _. refl)
  where
    level : (x b : Bool) → x ≡ b → (x && not b) ≡ false
    level true true e = refl
    level true false e = e
    level false b e = refl

calm_kept : (bit : Bool) (t : Take) → Calm bit t.apu → Calm bit (working_on t).apu
unfolding working_on
calm_kept bit t calm on = ap (λ (x : Take). x.apu.divider_sequencer_clock_bit) (working_own t) ∙ calm (sym (working_power t.apu) ∙ on)

calm_beaten : (bit : Bool) (t : Take) → Calm bit t.apu → beaten bit t ≡ working_on t
unfolding working_on
calm_beaten bit t calm = ap (λ (x : Apu). record { apu = x; bytes = (working_on t).bytes }) (calm_stored bit (working t.apu) (calm_kept bit t calm))

calm_beats : (bit : Bool) (n : ℕ) (t : Take) → Calm bit t.apu → iterate n (beaten bit) t ≡ iterate n working_on t
unfolding iterate
calm_beats bit zero t calm = refl
calm_beats bit (suc n) t calm = ap (iterate n (beaten bit)) (calm_beaten bit t calm) ∙ calm_beats bit n (working_on t) (calm_kept bit t calm)

-- so of many working clocks that see one bit, all but the first are the run's
beats : (bit : Bool) (n : ℕ) (t : Take) → iterate (suc n) (beaten bit) t ≡ iterate n working_on (beaten bit t)
unfolding iterate
beats bit n t = calm_beats bit n (beaten bit t) (stored_calm bit (working t.apu))

-- ---- calls that see one bit: every two half-clocks are a working clock
beaten_half : (bit : Bool) (t : Take) (h : ℕ) → beaten bit (with_halves t h) ≡ with_halves (beaten bit t) h
unfolding working_on
beaten_half bit t h =
    ap (λ (x : Take). record { apu = bit_stored bit x.apu; bytes = x.bytes }) (working_half t h)
    ∙ ap (λ (x : Apu). record { apu = x; bytes = t.bytes ++ working_bytes t.apu }) (stored_half bit (working t.apu) h)

gained_is : (double : Bool) (n : ℕ) → n * half_clocks_of double ≡ gained double n
gained_is true n = mul-one n
gained_is false n = refl

few : (double : Bool) → half_clocks_of double ≤ 2
few true = omega arith
few false = omega arith

called : (double bit : Bool) (k h : ℕ) (t : Take) → t.apu.clocks_counter ≡ h → h < 2
    → let halves = h + gained double k in iterate k (call_by double bit) t ≡ with_halves (iterate (halves / 2) (beaten bit) t) (halves % 2)
called double bit k h t e small =
    rw (← gained_is double k, ← e)
    (worked (λ (h : ℕ) (x : Take). with_halves x h) (call_by double bit) (beaten bit) d (few double) calls k t.apu.clocks_counter t (rw (← e) at small))
  where
    d : ℕ
    d = half_clocks_of double

    calls : (h : ℕ) (x : Take) → call_by double bit (with_halves x h) ≡ pick (ltb (h + d) 2) (with_halves x (h + d)) (with_halves (beaten bit x) (h + d - 2))
    calls h x = ap (λ (t : Take). pick (ltb (h + d) 2) (with_halves x (h + d)) (with_halves t (h + d - 2))) (beaten_half bit x h)

-- ---- THE LAW: what calls that see one bit make of a unit that owes n working clocks, by `met_of`
abbrev pub fallen_take : Take → Take
fallen_take t = record { apu = fallen t.apu; bytes = t.bytes }

none : (x : Bool) → (x && false) ≡ false
none true = refl
none false = refl

some : (x : Bool) (w : ℕ) → (x && not (eqb (suc w) 0)) ≡ x
some x w = rw (ne_eqb (suc w) 0 (λ (e : suc w ≡ 0). omega arith)) (all x)
  where
    all : (x : Bool) → (x && true) ≡ x
    all true = refl
    all false = refl

or_none : (x : Bool) → (x || false) ≡ x
or_none true = refl
or_none false = refl

module _ (double bit : Bool) (k n : ℕ) (t : Take) (small : t.apu.clocks_counter < 2) where
  abbrev met : Met
  met = met_of t.apu.clocks_counter t.apu.power t.apu.divider_sequencer_clock_bit double bit k

  abbrev stored : Bool
  stored = t.apu.divider_sequencer_clock_bit

  abbrev on : Bool
  on = t.apu.power

  -- the unit with what it owes, and with one working clock more
  abbrev owing : Take
  owing = iterate n working_on t

  abbrev onward : Take
  onward = working_on owing

  onward_power : onward.apu.power ≡ on
  unfolding working_on
  onward_power = working_power owing.apu ∙ ran_power n t

  onward_bit : onward.apu.divider_sequencer_clock_bit ≡ stored
  onward_bit =
      ap (λ (x : Take). x.apu.divider_sequencer_clock_bit) (working_own owing)
      ∙ ap (λ (x : Take). x.apu.divider_sequencer_clock_bit) (ran_own n t)

  met_first : iterate k (call_by double bit) owing ≡ with_halves (iterate met.working (beaten bit) owing) met.half
  met_first = called double bit k t.apu.clocks_counter owing (ap (λ (x : Take). x.apu.clocks_counter) (ran_own n t)) small

  -- the bit does not fall: it is stored at once, and all are the run's
  pub met_on : met.fell ≡ false → iterate k (call_by double bit) owing ≡ iterate (n + met.working) working_on (marked_take t met.half met.stored)
  unfolding iterate working_on
  met_on e = met_first ∙ go met.working e
    where
      h : ℕ
      h = met.half

      rises : (on && (stored && not bit)) ≡ false → beaten bit owing ≡ marked_take onward onward.apu.clocks_counter (stored || (on && bit))
      rises e =
          ap (λ (x : Apu). record { apu = x; bytes = onward.bytes })
          (stored_on bit onward.apu (rw (onward_power, onward_bit) e)
          ∙ ap₂ (λ (x y : Bool). with_bit onward.apu (x || (y && bit))) onward_bit onward_power)

      go : (w : ℕ) → ((on && not (eqb w 0)) && (stored && not bit)) ≡ false
          → with_halves (iterate w (beaten bit) owing) h ≡ iterate (n + w) working_on (marked_take t h (stored || ((on && not (eqb w 0)) && bit)))
      go zero e = rw (none on, or_none stored, add-zero n) (ap (λ (x : Take). with_halves x h) (ran_own n t) ∙ sym (ran_marked n t h stored))
      go (suc w) e =
          let s : Bool = stored || (on && bit) in
          rw (some on w)
          (ap (λ (x : Take). with_halves x h) (beats bit w owing ∙ ap (iterate w working_on) (rises (rw (some on w) at e)))
          ∙ ap (λ (x : Take). with_halves x h) (ran_marked w onward onward.apu.clocks_counter s)
          ∙ sym (ran_marked w onward h s)
          ∙ sym (ap (iterate w working_on) (working_marked owing h s))
          ∙ sym (ap (iterate (suc w) working_on) (ran_marked n t h s))
          ∙ sym (iterate_add n (suc w) working_on (marked_take t h s)))

  -- it falls with the first of them, after which the sequencer moves; the others are the run's
  pub met_fell : met.fell ≡ true
      → iterate k (call_by double bit) owing ≡ iterate (met.working - 1) working_on (fallen_take (iterate (n + 1) working_on (marked_take t met.half stored)))
  unfolding iterate working_on
  met_fell e = met_first ∙ go met.working e
    where
      h : ℕ
      h = met.half

      less : (w : ℕ) → w ≡ suc w - 1
      less w = omega arith

      falls : (on && (stored && not bit)) ≡ true → beaten bit owing ≡ fallen_take onward
      falls e =
          ap (λ (x : Apu). record { apu = x; bytes = onward.bytes })
          (stored_fell bit onward.apu (rw (onward_power, onward_bit) e))

      go : (w : ℕ) → ((on && not (eqb w 0)) && (stored && not bit)) ≡ true
          → with_halves (iterate w (beaten bit) owing) h ≡ iterate (w - 1) working_on (fallen_take (iterate (n + 1) working_on (marked_take t h stored)))
      go zero e = let f : false ≡ true = rw (none on) at e in cc
      go (suc w) e =
          ap (λ (x : Take). with_halves x h) (beats bit w owing ∙ ap (iterate w working_on) (falls (rw (some on w) at e)))
          ∙ sym (ran_half w (fallen_take onward) h)
          ∙ ap (λ (x : Apu). iterate w working_on (record { apu = x; bytes = onward.bytes })) (sym (advanced_half (with_bit onward.apu false) h))
          ∙ ap₂ (λ (n : ℕ) (x : Take). iterate n working_on (fallen_take x)) (less w)
          (ap (λ (x : Take). with_halves x h) (sym (iterate_add n 1 working_on t)) ∙ sym (ran_half (n + 1) t h))

-- ---- the numbers by themselves: half a working clock is left at most, and a fall is seen by one
pub met_half : (half : ℕ) (power stored double bit : Bool) (k : ℕ) → (met_of half power stored double bit k).half ≤ 1
met_half half power stored double bit k = rest (half + gained double k)
  where
    rest : (n : ℕ) → n % 2 ≤ 1
    rest n = omega arith

pub met_few : (half : ℕ) (power stored double bit : Bool) (k : ℕ) → half ≤ 1 → k ≤ 16384 → (met_of half power stored double bit k).working ≤ 16384
met_few half power stored true bit k h l = omega arith
met_few half power stored false bit k h l = omega arith

pub fell_some : (half : ℕ) (power stored double bit : Bool) (k : ℕ) → let m = met_of half power stored double bit k in m.fell ≡ true → 1 ≤ m.working
fell_some half power stored double bit k e = go ((half + gained double k) / 2) e
  where
    go : (w : ℕ) → ((power && not (eqb w 0)) && (stored && not bit)) ≡ true → 1 ≤ w
    go zero e =
        let f : false ≡ true = rw (none power) at e in
        let z : ◌≡◌ {A = ℕ} 0 1 = cc in
        omega arith
    go (suc w) e = omega arith
