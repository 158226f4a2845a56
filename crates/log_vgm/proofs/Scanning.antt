-- At every turn of the scan, bytes counted so far and commands to come say the same as all of them; the count is right up to its cap. Assumes nothing.
use Prim.Native.Nat.{ℕ, ◌+◌, ◌≤◌, ◌<◌, min}
use mathlib.Core.Path.{◌≡◌, refl, sym, ap, ◌∙◌}
use mathlib.Core.Bool.{Bool, true, false}
use mathlib.Core.List.{List}
use native.Mathlib.Omega.{arith}
use native.Mathlib.Nat.{add-zero, add_assoc}
use borrow.Author.Tests.{ltb-true, ltb-false}
use lib.ListN.{length, length-append}
use lib.Dec.{ltb}
use Rattle.std.specs.Prelude.{Ok, Err}
use Rattle.ground.specs.Pick.{pick}
use Rattle.log_vgm.specs.declared.clockwork.Clockwork.{Clockwork}
use Rattle.log_vgm.specs.declared.clockwork.Walk.{Walk}
use Rattle.log_vgm.specs.declared.command.Taken.{Taken}
use Rattle.log_vgm.specs.declared.refusal.ImportRefusal.{ImportRefusal}
use Rattle.log_vgm.specs.declared.refusal.ImportRefusal.TheVariants.{BadCommand}
use Rattle.log_vgm.specs.Commands.{Track, ended, stopped, after, commands_from}
use Rattle.log_vgm.specs.Clockwork.{moved_of, walked_of}
use Rattle.log_vgm.specs.Log.{bytes_by, bytes_on}
use Rattle.log_vgm.specs.Imports.{Imported, capped, scanned_on, or_stopped, fitted}

-- ---- the cap
capped_again : (most n x : ℕ) → capped most (capped most n + x) ≡ capped most (n + x)
capped_again most n x = omega arith

scan_capped : (n : ℕ) (c : Clockwork) (t : Track) → scanned_on (capped 65537 n) c t ≡ scanned_on n c t
scan_capped n c ended = ap (λ (b : ℕ). Ok b) (rw (add-zero (capped 65537 n), add-zero n) at (capped_again 65537 n 0))
scan_capped n c (stopped place) = refl
scan_capped n c (after command rest) =
    let x = length (bytes_by c command) in
    let on = moved_of c command in
    sym (scan_capped (capped 65537 n + x) on rest)
    ∙ ap (λ (b : ℕ). scanned_on b on rest) (capped_again 65537 n x)
    ∙ scan_capped (n + x) on rest

-- ---- the scan's turns
pub record Scanning (s : List ℕ) (from : Walk) (opening : ℕ) (walk : Walk) (bytes : ℕ) : Type 0 where
  pub few : bytes ≤ 65537
  pub same : scanned_on bytes walk.clockwork (commands_from s walk.at) ≡ scanned_on opening from.clockwork (commands_from s from.at)

module _ {s : List ℕ} {from : Walk} {opening : ℕ} {walk : Walk} {bytes : ℕ} (inv : Scanning s from opening walk bytes) where
  pub turn : (taken : Taken) → commands_from s walk.at ≡ after taken.command (commands_from s (walk.at + 1 + taken.more))
      → {next : Walk} → next ≡ walked_of walk taken
      → {now : ℕ} → now ≡ min (bytes + length (bytes_by walk.clockwork taken.command)) 65537
      → Scanning s from opening next now
  turn taken e {next} w {now} b =
      let on = moved_of walk.clockwork taken.command in
      let x = length (bytes_by walk.clockwork taken.command) in
      record {
        few = omega arith;
        same =
            rw (w, b)
            (scan_capped (bytes + x) on (commands_from s (walk.at + 1 + taken.more))
            ∙ sym (ap (scanned_on bytes walk.clockwork) e)
            ∙ inv.same);
      }

  pub scan_ended : commands_from s walk.at ≡ ended → Ok bytes ≡ scanned_on opening from.clockwork (commands_from s from.at)
  scan_ended e =
      let few = inv.few in
      let below : bytes ≡ capped 65537 bytes = omega arith in
      ap (λ (b : ℕ). Ok b) below ∙ sym (ap (scanned_on bytes walk.clockwork) e) ∙ inv.same

  pub scan_stopped : commands_from s walk.at ≡ stopped walk.at
      → Err (BadCommand walk.at) ≡ scanned_on opening from.clockwork (commands_from s from.at)
  scan_stopped e = sym (ap (scanned_on bytes walk.clockwork) e) ∙ inv.same

-- ---- what it found
pub found_good : (n : ℕ) (c : Clockwork) (t : Track) {bytes : ℕ} → scanned_on n c t ≡ Ok bytes → bytes ≡ capped 65537 (n + length (bytes_on c t))
unfolding bytes_on
found_good n c ended {bytes} e = let f : capped 65537 n ≡ bytes = cc in sym f ∙ ap (capped 65537) (sym (add-zero n))
found_good n c (stopped place) e = cc
found_good n c (after command rest) e =
    let x = bytes_by c command in
    let l = length-append x (bytes_on (moved_of c command) rest) in
    found_good (n + length x) (moved_of c command) rest e
    ∙ ap (capped 65537) (add_assoc n (length x) (length (bytes_on (moved_of c command) rest)) ∙ ap (λ (m : ℕ). n + m) (sym l))

pub good_goes : (n : ℕ) (c : Clockwork) (t : Track) {bytes : ℕ} → scanned_on n c t ≡ Ok bytes → (a : Imported) → or_stopped t a ≡ a
unfolding or_stopped
good_goes n c ended e a = refl
good_goes n c (stopped place) e a = cc
good_goes n c (after command rest) e a = good_goes (n + length (bytes_by c command)) (moved_of c command) rest e a

pub found_stopped : (n : ℕ) (c : Clockwork) (t : Track) {r : ImportRefusal} → scanned_on n c t ≡ Err r → (a : Imported) → or_stopped t a ≡ Err r
unfolding or_stopped
found_stopped n c ended e a = cc
found_stopped n c (stopped place) e a = cc
found_stopped n c (after command rest) e a = found_stopped (n + length (bytes_by c command)) (moved_of c command) rest e a

-- a count that stopped at its cap is answered like the count itself
pub fitted_capped : (room n : ℕ) → fitted room (capped 65537 n) ≡ fitted room n
unfolding fitted pick
fitted_capped room n = go (ltb 65536 n) refl
  where
    go : (b : Bool) → ltb 65536 n ≡ b → fitted room (capped 65537 n) ≡ fitted room n
    go true e =
        let h : 65536 < n = ltb-true 65536 n e in
        let most : capped 65537 n ≡ 65537 = omega arith in
        rw (most, e)
    go false e =
        let h : n ≤ 65536 = ltb-false 65536 n e in
        let same : capped 65537 n ≡ n = omega arith in
        ap (fitted room) same
