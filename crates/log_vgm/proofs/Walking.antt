-- How a loop walks the commands: what those from a place on are, by what stands there; a command that is taken lies within the file. Assumes nothing.
use Prim.Native.Nat.{ℕ, ◌+◌, ◌-◌, ◌≤◌, ◌<◌}
use mathlib.Core.Path.{◌≡◌, refl, sym, ap, ◌∙◌, subst}
use mathlib.Core.List.{List}
use Rattle.std.specs.Prelude.{Option, Some, None, Result, Ok, Err, MatchResult, IsErrAnd}
use native.Mathlib.Omega.{arith}
use borrow.Author.Tests.{leb-false, leb-true}
use lib.ListN.{length, get_or}
use Rattle.ground.proofs.Cases.{pick_holds, both_ways}
use Rattle.log_vgm.specs.declared.command.Taken.{Taken}
use Rattle.log_vgm.specs.declared.command.NotTaken.{NotTaken}
use Rattle.log_vgm.specs.Commands.{Next, store_of, short_of, next_at, ended, stopped, after, grow, commands_from, commands_step}
use Rattle.log_vgm.specs.Log.{Low}

-- what `map_err` makes of it
pub mapped_ok : {F : Type 0} (n : Next) (r : Result (Option Taken) F) (Q : NotTaken → F → Type 0) {x : Option Taken}
    → MatchResult n (λ x. r ≡ Ok x) (λ e. IsErrAnd r (Q e)) → r ≡ Ok x → n ≡ Ok x
mapped_ok (Ok y) r Q h e = cc
mapped_ok (Err y) r Q h e = absurd (rw e at h)

pub mapped_err : {F : Type 0} (n : Next) (r : Result (Option Taken) F) (Q : NotTaken → F → Type 0) {f : F}
    → MatchResult n (λ x. r ≡ Ok x) (λ e. IsErrAnd r (Q e)) → r ≡ Err f → (e : NotTaken) × (n ≡ Err e) × Q e f
mapped_err (Ok y) r Q h e = let k = rw e at h in cc
mapped_err (Err y) r Q h e = (y, refl, rw e at h)

module _ (s : List ℕ) (at : ℕ) where
  -- its bytes are the file's, its register is in its range
  abbrev pub Fits : Next → Type 0
  Fits (Ok (Some taken)) = (at + 1 + taken.more ≤ length s) × Low taken.command
  Fits (Ok None) = 0 ≤ at
  Fits (Err e) = 0 ≤ at

  short_fits : at < length s → (first : ℕ) → Fits (short_of first)
  unfolding short_of
  short_fits h first =
      both_ways Fits _ (omega arith, omega arith)
      (both_ways Fits _ (omega arith, omega arith)
      (both_ways Fits _ (omega arith) (both_ways Fits _ (omega arith, omega arith) (omega arith))))

  store_fits : at + 3 ≤ length s → (register value : ℕ) → Fits (store_of register value)
  unfolding store_of
  store_fits h register value = pick_holds Fits _ _ _ (λ e. (omega arith, leb-true register 0x2F e)) (λ _. omega arith)

  pub next_fits : Fits (next_at s at)
  unfolding next_at
  next_fits =
      pick_holds Fits _ _ _ (λ _. omega arith)
      (λ inside.
      let h : at < length s = leb-false (length s) at inside in
      pick_holds Fits _ _ _ (λ _. short_fits h (get_or s at 0))
      (λ _.
      pick_holds Fits _ _ _
      (λ three.
      let l : 3 ≤ length s - at = leb-true 3 (length s - at) three in
      both_ways Fits _ (store_fits (omega arith) _ _) (omega arith, omega arith))
      (λ _. omega arith)))

  module _ {next : Next} (is : next ≡ next_at s at) where
    step : {told : Next} → next ≡ told → commands_from s at ≡ grow at (commands_from s) told
    step e = commands_step s at ∙ ap (grow at (commands_from s)) (sym is ∙ e)

    pub taken_fits : {taken : Taken} → next ≡ Ok (Some taken) → (at + 1 + taken.more ≤ length s) × Low taken.command
    taken_fits e = subst Fits (sym is ∙ e) next_fits

    pub at_taken : {taken : Taken} → next ≡ Ok (Some taken)
        → commands_from s at ≡ after taken.command (commands_from s (at + 1 + taken.more))
    at_taken e = step e

    pub at_end : next ≡ Ok None → commands_from s at ≡ ended
    at_end e = step e

    pub at_bad : {e : NotTaken} → next ≡ Err e → commands_from s at ≡ stopped at
    at_bad e = step e
