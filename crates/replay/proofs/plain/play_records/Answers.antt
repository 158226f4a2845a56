-- A record lies within the log, so that the place moves on. Assumes nothing.
use Prim.Native.Nat.{ℕ}
use native.Mathlib.Omega.{arith}
use mathlib.Core.Path.{◌≡◌, sym, ap, ◌∙◌}
use Rattle.std.specs.Prelude.{Result, Option, Ok, Err, Some}
use Rattle.std.specs.Result.{result_ok}
use Rattle.log_records.specs.declared.cut.CutShort.{CutShort}
use Rattle.log_records.proofs.Framing.{body_fits}
use Rattle.replay.proofs.plain.play_records.Goals as goal

was_ok : (r : Result (Option ℕ) CutShort) (n : ℕ) → result_ok r ≡ Some (Some n) → r ≡ Ok (Some n)
was_ok (Ok x) n e = cc
was_ok (Err x) n e = cc

pub loop-len-smaller : goal.loop-len-smaller
loop-len-smaller g c =
    let cut = was_ok _ _ (sym c.ok.ensures.value ∙ c.in_ok-len.was ∙ ap Some c.in-Some.is) in
    let h = body_fits _ c.loop-len.at _ (sym c.cut_at.ensures ∙ cut) in
    omega arith
