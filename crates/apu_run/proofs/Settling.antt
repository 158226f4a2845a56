-- A run of what a unit owes, put back into it. Assumes nothing.
use Prim.Native.Nat.{ℕ}
use mathlib.Core.Path.{◌≡◌, ap, ap₂, ◌∙◌}
use mathlib.Core.List.{List}
use lib.ListN.{length}
use lib.Seq.{sets, length-sets}
use Rattle.apu.specs.Held.{Held, FloatsHeld}
use Rattle.apu.specs.declared.Apu.{Apu}
use Rattle.apu_run.specs.Working.{ran_of}
use Rattle.apu_run.specs.Phases.{PhasesHeld, put_back}
use Rattle.apu_run.specs.Parts.{parts_of}
use Rattle.apu_run.specs.Calls.{further}
use Rattle.apu_run.specs.declared.calls.Play.{Play}
use Rattle.apu_run.specs.declared.frames.Parts.{Parts}
use Rattle.apu_run.proofs.Moves.{phases_held}
use Rattle.apu_run.proofs.Rans.{put_ran}
use Rattle.apu_run.proofs.Ranges.{Ready, ran_ready}

-- what `sound` and `rest` promise alike
pub record Settled (a : Apu) (owed : ℕ) (out₀ : List ℕ) (at : ℕ) (r : Parts) (out : List ℕ) : Type 0 where
  pub is : r ≡ parts_of (ran_of owed a) at
  pub bytes : out ≡ sets out₀ at (ran_of owed a).bytes

module _ {a : Apu} {owed : ℕ} {out₀ : List ℕ} {at : ℕ} {r : Parts} {out : List ℕ} (s : Settled a owed out₀ at r out) where
  pub settled_held : Ready a → PhasesHeld r.phases
  settled_held h = rw s.is (phases_held (ran_of owed a).apu (ran_ready owed a h).held)

  pub settled_long : length out ≡ length out₀
  settled_long = ap length s.bytes ∙ length-sets out₀ at (ran_of owed a).bytes

  -- the unit that it is put back into
  pub put_is : {b : Apu} → b ≡ put_back a r.phases r.converters r.counter → b ≡ (ran_of owed a).apu
  put_is e = e ∙ ap (λ (x : Parts). put_back a x.phases x.converters x.counter) s.is ∙ put_ran owed a

  -- and with the place after its bytes
  pub settled_play : {b : Apu} → Ready a → b ≡ put_back a r.phases r.converters r.counter
      → (◌≡◌ {A = Play} (record { apu = b; at = r.at }) (further (record { apu = a; at = at }) (ran_of owed a).apu (ran_of owed a).bytes))
      × ((out ≡ sets out₀ at (ran_of owed a).bytes) × (Held b × FloatsHeld b))
  settled_play h e =
      let ran = ran_ready owed a h in (
        ap₂ (λ (x : Apu) (n : ℕ). record { apu = x; at = n }) (put_is e) (ap (λ (x : Parts). x.at) s.is),
        (s.bytes, rw (put_is e) (ran.held, ran.floats)),
      )
