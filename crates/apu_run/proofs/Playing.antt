-- What the loops of a player hold on to: what is still to come, from the unit, the place and the output as they are, makes what all of it makes from the
-- start. What is to come is a unit and bytes (`Take`), whatever it is made of. Assumes nothing.
use Prim.Native.Nat.{ℕ, ◌+◌, ◌≤◌}
use mathlib.Core.Path.{◌≡◌, refl, sym, ◌∙◌}
use mathlib.Core.List.{List, ◌++◌}
use native.Mathlib.Nat.{add_assoc}
use native.Mathlib.Omega.{arith}
use lib.ListN.{length, length-append}
use lib.Seq.{sets, length-sets}
use Rattle.log_items.proofs.Stores.{sets_append}
use Rattle.apu.specs.declared.Apu.{Apu}
use Rattle.apu_run.specs.Working.{Take}
use Rattle.apu_run.specs.Calls.{further}
use Rattle.apu_run.specs.declared.calls.Play.{Play}
use Rattle.apu_run.proofs.Ranges.{Ready}
use Rattle.apu_run.proofs.Marks.{front}

-- a move by a take
abbrev pub further_by : Play → Take → Play
further_by p t = further p t.apu t.bytes

-- in two pieces
pub further_further : (p : Play) (a b : Apu) (xs ys : List ℕ) → further p b (xs ++ ys) ≡ further (further p a xs) b ys
further_further p a b xs ys = rw (length-append xs ys, add_assoc p.at (length xs) (length ys))

-- `whole` from p and out₀ is `rest` from the unit a, the place `at` and out
pub record Going (p : Play) (out₀ : List ℕ) (whole : Take) (a : Apu) (at : ℕ) (out : List ℕ) (rest : Take) : Type 0 where
  pub ready : Ready a
  pub room : at + length rest.bytes ≤ length out
  pub same : length out ≡ length out₀
  pub state : further_by (record { apu = a; at = at }) rest ≡ further_by p whole
  pub bytes : sets out at rest.bytes ≡ sets out₀ p.at whole.bytes

pub begun : {p : Play} {out : List ℕ} {whole : Take}
    → Ready p.apu → p.at + length whole.bytes ≤ length out → Going p out whole p.apu p.at out whole
begun h r = record { ready = h; room = r; same = refl; state = refl; bytes = refl }

module _ {p : Play} {out₀ : List ℕ} {whole : Take} {a : Apu} {at : ℕ} {out : List ℕ} {rest : Take} (g : Going p out₀ whole a at out rest) where
  -- a loop within a loop: what it goes on with is what it began with
  pub onward : {b : Apu} {at' : ℕ} {out' : List ℕ} {rest' : Take}
      → Going (record { apu = a; at = at }) out rest b at' out' rest' → Going p out₀ whole b at' out' rest'
  onward h =
      record { ready = h.ready; room = h.room; same = h.same ∙ g.same; state = h.state ∙ g.state; bytes = h.bytes ∙ g.bytes }

  -- nothing written: the same is to come, in other words
  pub reckoned : (b : Apu) (rest' : Take) → Ready b → rest ≡ rest' → Going p out₀ whole b at out rest'
  reckoned b rest' h e =
      record {
        ready = h;
        room = rw (← e) g.room;
        same = g.same;
        state = rw (← e) g.state;
        bytes = rw (← e) g.bytes;
      }

  -- some bytes of it written
  module _ (l : List ℕ) (rest' : Take) (e : rest ≡ front l rest') where
    room_first : at + length l + length rest'.bytes ≤ length out
    room_first = rw (add_assoc at (length l) (length rest'.bytes), ← length-append l rest'.bytes) (rw e at g.room)

    pub room_now : at + length l ≤ length out
    room_now = less (at + length l) (length rest'.bytes) (length out) room_first
      where
        less : (x y z : ℕ) → x + y ≤ z → x ≤ z
        less x y z h = omega arith

    pub written : (b : Apu) → Ready b → Going p out₀ whole b (at + length l) (sets out at l) rest'
    written b h =
        record {
          ready = h;
          room = rw (length-sets out at l) room_first;
          same = length-sets out at l ∙ g.same;
          state = sym (further_further (record { apu = a; at = at }) b rest'.apu l rest'.bytes) ∙ rw e at g.state;
          bytes = sym (sets_append out at l rest'.bytes) ∙ rw e at g.bytes;
        }

  -- all of it written
  pub ended : (q : Play) (out' : List ℕ) → q ≡ further_by (record { apu = a; at = at }) rest → out' ≡ sets out at rest.bytes
      → (q ≡ further_by p whole) × (out' ≡ sets out₀ p.at whole.bytes)
  ended q out' qe oe = (qe ∙ g.state, oe ∙ g.bytes)
