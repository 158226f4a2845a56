-- From the scan's count to the answer, and what is known of a file that is imported: its header is whole and its log has room. Assumes nothing.
use Prim.Native.Nat.{ℕ, ◌+◌, ◌≤◌}
use mathlib.Core.Path.{◌≡◌, refl, sym, ap, ◌∙◌, subst}
use mathlib.Core.Bool.{true, false}
use mathlib.Core.List.{List, ◌++◌}
use native.Mathlib.Nat.{zero-add}
use native.Mathlib.Omega.{arith}
use borrow.Author.Tests.{ltb-false}
use lib.ListN.{length, drop, length-append}
use lib.Seq.{sets, sets-eq}
use Rattle.std.specs.Prelude.{Ok, Err}
use Rattle.ground.specs.Pick.{pick}
use Rattle.ground.proofs.Cases.{pick_holds}
use Rattle.log_vgm.specs.declared.refusal.ImportRefusal.{ImportRefusal}
use Rattle.log_vgm.specs.declared.refusal.ImportRefusal.TheVariants.{BadHeader, BadCommand, TooLong, TooShort}
use Rattle.log_vgm.specs.declared.clockwork.Walk.{Walk}
use Rattle.log_vgm.specs.Header.{start_of, bad_header}
use Rattle.log_vgm.specs.Commands.{Track, ended, stopped, after, commands_from}
use Rattle.log_vgm.specs.Clockwork.{clockwork_at, starting_at}
use Rattle.log_vgm.specs.Log.{track_of, log_of, written, bytes_on, opening}
use Rattle.log_vgm.specs.Imports.{Imported, or_stopped, fitted, imported_of, is_done, refusal_of, scanned_on, log_after}
use Rattle.log_vgm.proofs.Counted.{bytes_at}
use Rattle.log_vgm.proofs.Scanning.{found_good, good_goes, found_stopped, fitted_capped}

-- the log by what the code keeps
log_is : (s : List ℕ) → opening ++ bytes_on (clockwork_at 0) (track_of s) ≡ log_of s
unfolding written
log_is s = ap (λ (l : List ℕ). opening ++ l) (bytes_at 0 (track_of s))

-- by the walk that starts at its first command
pub log_from : (s : List ℕ) {walk : Walk} {start : ℕ} → walk ≡ starting_at start → start ≡ start_of s
    → opening ++ bytes_on walk.clockwork (commands_from s walk.at) ≡ log_of s
log_from s w e = rw (w, e) (log_is s)

pub log_fits : (s : List ℕ) {walk : Walk} {start : ℕ} → walk ≡ starting_at start → start ≡ start_of s → (room : ℕ) → length (log_of s) ≤ room
    → length (opening ++ bytes_on walk.clockwork (commands_from s walk.at)) ≤ room
log_fits s w e room h = subst (λ (l : List ℕ). length l ≤ room) (sym (log_from s w e)) h

-- ---- the answer
module _ (s : List ℕ) (room : ℕ) where
  pub bad_header_is : bad_header s ≡ true → Err BadHeader ≡ imported_of s room
  unfolding imported_of pick
  bad_header_is e = rw e

  -- by what the scan found, after the eight bytes of the opening
  module _ (right : bad_header s ≡ false) {scanned : Imported} (is : scanned ≡ scanned_on 8 (clockwork_at 0) (track_of s)) where
    good_is : imported_of s room ≡ or_stopped (track_of s) (fitted room (length (log_of s)))
    unfolding imported_of pick
    good_is = rw right

    pub fitted_is : {bytes : ℕ} → scanned ≡ Ok bytes → fitted room bytes ≡ imported_of s room
    fitted_is {bytes} e =
        let found = sym is ∙ e in
        let all = 8 + length (bytes_on (clockwork_at 0) (track_of s)) in
        ap (fitted room) (found_good 8 (clockwork_at 0) (track_of s) found)
        ∙ fitted_capped room all
        ∙ ap (fitted room) (sym (length-append opening (bytes_on (clockwork_at 0) (track_of s))) ∙ ap length (log_is s))
        ∙ sym (good_goes 8 (clockwork_at 0) (track_of s) found (fitted room (length (log_of s))))
        ∙ sym good_is

    pub stopped_is : {r : ImportRefusal} → scanned ≡ Err r → Err r ≡ imported_of s room
    stopped_is e = sym (found_stopped 8 (clockwork_at 0) (track_of s) (sym is ∙ e) (fitted room (length (log_of s)))) ∙ sym good_is

  -- ---- what being done says
  abbrev Says : Type 0 → Imported → Type 0
  Says P a = is_done a ≡ true → P

  pub done_header : is_done (imported_of s room) ≡ true → bad_header s ≡ false
  unfolding imported_of
  done_header = pick_holds (Says (bad_header s ≡ false)) _ _ _ (λ _ d. cc) (λ e _. e)

  -- no command stopped it
  went : (t : Track) (a : Imported) → is_done (or_stopped t a) ≡ true → is_done a ≡ true
  unfolding or_stopped
  went ended a d = d
  went (stopped place) a d = cc
  went (after command rest) a d = went rest a d

  pub done_goes : is_done (imported_of s room) ≡ true → is_done (fitted room (length (log_of s))) ≡ true
  unfolding imported_of
  done_goes =
      pick_holds (Says (is_done (fitted room (length (log_of s))) ≡ true)) _ _ _ (λ _ d. cc)
      (λ _. went (track_of s) (fitted room (length (log_of s))))

  -- the log is none too long, and there was room for it
  fits : (n : ℕ) → is_done (fitted room n) ≡ true → (n ≤ 65536) × (n ≤ room)
  unfolding fitted
  fits n =
      pick_holds (Says ((n ≤ 65536) × (n ≤ room))) _ _ _ (λ _ d. never d)
      (λ short.
      pick_holds (Says ((n ≤ 65536) × (n ≤ room))) _ _ _ (λ _ d. never d) (λ enough _. (ltb-false 65536 n short, ltb-false room n enough)))
    where
      never : false ≡ true → (n ≤ 65536) × (n ≤ room)
      never d = let f : ◌≡◌ {A = ℕ} 0 1 = cc in (omega arith, omega arith)

  pub done_fits : is_done (imported_of s room) ≡ true → (length (log_of s) ≤ 65536) × (length (log_of s) ≤ room)
  done_fits d = fits (length (log_of s)) (done_goes d)

-- ---- the lent bytes after it
done_after : (a : Imported) (log out : List ℕ) → is_done a ≡ true → log_after a log out ≡ log ++ drop (length log) out
done_after (Ok n) log out d = refl
done_after (Err refusal) log out d = cc

-- a log put at the front
pub put_after : (a : Imported) (log out : List ℕ) → is_done a ≡ true → length log ≤ length out → sets out 0 log ≡ log_after a log out
put_after a log out d h =
    rw (zero-add (length log)) at (sets-eq log out 0 (rw (zero-add (length log)) h)) ∙ sym (done_after a log out d)

-- ---- the refusal's number
pub refusal_le : (a : Imported) → refusal_of a ≤ 11
refusal_le (Ok n) = omega arith
refusal_le (Err BadHeader) = omega arith
refusal_le (Err (BadCommand place)) = omega arith
refusal_le (Err TooLong) = omega arith
refusal_le (Err (TooShort n)) = omega arith
