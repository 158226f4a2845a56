-- The loop of a record's calls: what is owed, and the calls still to come. Assumes nothing.
use Prim.Native.Nat.{ℕ, ◌+◌, ◌-◌, ◌/◌, ◌%◌, ◌≤◌}
use mathlib.Core.Path.{◌≡◌, refl, ◌∙◌, ap}
use mathlib.Core.Bool.{Bool, true, false}
use mathlib.Core.List.{List}
use native.Mathlib.Omega.{arith}
use lib.ListN.{length}
use lib.Seq.{sets}
use Rattle.ground.specs.Iterate.{iterate}
use Rattle.clocks.specs.Metered.{gained}
use Rattle.apu.specs.declared.Apu.{Apu}
use Rattle.apu_run.specs.Working.{ran_of}
use Rattle.apu_run.specs.Calls.{clocks_bytes}
use Rattle.apu_run.specs.Owed.{marked, fallen}
use Rattle.apu_run.specs.declared.calls.Play.{Play}
use Rattle.log_records.specs.declared.divider.Divider.{Divider}
use Rattle.apu_run.specs.declared.calls.Met.{Met}
use Rattle.apu_run.proofs.Rows.{rows, rows_none}
use Rattle.apu_run.proofs.Ranges.{Ready}
use Rattle.apu_run.proofs.Playing.{Going, begun, reckoned}
use Rattle.apu_run.proofs.Turns as turns
use Rattle.apu_run.proofs.Turns.{none, Later, Meets}

gained_split : (double : Bool) (n j k : ℕ) → n ≡ j + k → gained double n ≡ gained double j + gained double k
gained_split true n j k e = e
gained_split false n j k e = omega arith

gained_most : (double : Bool) (n : ℕ) → gained double n ≤ n + n
gained_most true n = omega arith
gained_most false n = omega arith

pub record Owing (double : Bool) (d : Divider) (from to : ℕ) (p : Play) (out₀ out : List ℕ) (a : Apu) (at owed i : ℕ) : Type 0 where
  pub going : Going p out₀ (rows double d from (to - from) (none p.apu)) a at out (rows double d i (to - i) (ran_of owed a))
  pub left : to - i ≤ 16384
  pub few : owed + (a.clocks_counter + gained double (to - i)) / 2 ≤ 16384

pub owing : {double : Bool} {d : Divider} {from to : ℕ} {p : Play} {out : List ℕ} → Ready p.apu → to - from ≤ 16384
    → p.at + length (clocks_bytes double d from (to - from) p.apu) ≤ length out → Owing double d from to p out out p.apu p.at 0 from
unfolding iterate
owing {double} {d} {from} {to} {p} h few room =
    record { going = begun h room; left = few; few = all p.apu.clocks_counter (to - from) _ h.held.clocks few (gained_most double (to - from)) }
  where
    all : (half n g : ℕ) → half ≤ 1 → n ≤ 16384 → g ≤ n + n → 0 + (half + g) / 2 ≤ 16384
    all half n g h l m = omega arith

module _
    {double : Bool} {d : Divider} {from to : ℕ} {p : Play} {out₀ out : List ℕ} {a : Apu} {at owed i : ℕ} (g : Owing double d from to p out₀ out a at owed i)
  where
    -- no call is left
    pub last : to ≤ i → Going p out₀ (rows double d from (to - from) (none p.apu)) a at out (ran_of owed a)
    last h =
        let e : to - i ≡ 0 = omega arith in
        reckoned g.going a (ran_of owed a) g.going.ready (ap (λ (n : ℕ). rows double d i n (ran_of owed a)) e ∙ rows_none double d i (ran_of owed a))

    module _ {some : ℕ} {m : Met} (s : Meets double d a i (to - i) some (to - (i + some)) m) where
      abbrev Turned : List ℕ → Apu → ℕ → ℕ → Type 0
      Turned o b at n = Owing double d from to p out₀ o b at n (i + some)

      abbrev end : Later
      end = record { on = λ t. t; behind = λ l t. refl }

      fewer : owed + m.working + (m.half + gained double (to - (i + some))) / 2 ≤ 16384
      fewer = rw s.is (halves owed a.clocks_counter _ _ _ g.few (gained_split double (to - i) some (to - (i + some)) s.split))
        where
          halves : (o h n j k : ℕ) → o + (h + n) / 2 ≤ 16384 → n ≡ j + k → o + (h + j) / 2 + ((h + j) % 2 + k) / 2 ≤ 16384
          halves o h n j k f e = omega arith

      pub turn_on : m.fell ≡ false → Turned out (marked a m.half m.stored) at (owed + m.working)
      turn_on e = record { going = (turns.turn_on end owed g.going s e).1; left = omega (arith, g.left); few = fewer }

      pub falls : m.fell ≡ true → turns.Falls end owed g.going s
      falls e = turns.turn_fell end owed g.going s e

      pub turn_fell : (e : m.fell ≡ true) → let t = ran_of (owed + 1) (marked a m.half a.divider_sequencer_clock_bit) in
          Turned (sets out at t.bytes) (fallen t.apu) (at + length t.bytes) (m.working - 1)
      turn_fell e =
          record {
            going = (falls e).turn;
            left = omega (arith, g.left);
            few = less owed m.working _ _ (ap (λ (n : ℕ). (n + gained double (to - (i + some))) / 2) (falls e).half_is) fewer;
          }
        where
          less : (o w r s : ℕ) → s ≡ r → o + w + r ≤ 16384 → w - 1 + s ≤ 16384
          less o w r s e f = omega arith

      pub owed_few : owed + m.working ≤ 16384
      owed_few = first (owed + m.working) _ fewer
        where
          first : (n k : ℕ) → n + k ≤ 16384 → n ≤ 16384
          first n k h = omega arith
