-- What is known of a log that is played: it has a good start of two bytes and no wrong record, and the output has room; a refusal leaves the output.
-- Assumes nothing.
use Prim.Native.Nat.{ℕ, ◌≤◌}
use mathlib.Core.Path.{◌≡◌, refl}
use mathlib.Core.Bool.{Bool, true, false}
use mathlib.Core.List.{List, ◌++◌}
use native.Mathlib.Omega.{arith}
use borrow.Author.Tests.{ltb-false}
use lib.ListN.{length, drop}
use lib.Dec.{ltb}
use Rattle.std.specs.Prelude.{Option, None, Some}
use Rattle.ground.specs.Pick.{pick}
use Rattle.ground.proofs.Cases.{pick_holds}
use Rattle.std.specs.Prelude.{Ok, Err}
use Rattle.log_scan.specs.declared.answer.Played.{Played}
use Rattle.log_scan.specs.declared.answer.LogRefusal.TheVariants.{TooShort}
use Rattle.log_records.specs.Records.{records_of, listed}
use Rattle.log_scan.specs.Scan.{wrong_in, summed}
use Rattle.log_scan.specs.Answers.{LogAnswer, is_done, bad_start, done_as, or_wrong, scanned_as, within_room, out_after}

-- a good start is of two bytes and more
start_long : (s : List ℕ) → bad_start s ≡ false → 2 ≤ length s
unfolding pick bad_start
start_long s e = ltb-false (length s) 2 (go (ltb (length s) 2) _ e)
  where
    go : (b c : Bool) → pick b true c ≡ false → b ≡ false
    go true c e = e
    go false c e = refl

-- a refusal is not done
never : (m n : ℕ) → false ≡ true → m ≤ n
never m n e = let f : ◌≡◌ {A = ℕ} 0 1 = cc in omega arith

-- what being done says
abbrev Says : Type 0 → LogAnswer → Type 0
Says P a = is_done a ≡ true → P

pub scanned_long : (n f : ℕ) (s : List ℕ) → is_done (scanned_as n f s) ≡ true → 2 ≤ length s
unfolding scanned_as
scanned_long n f s =
    pick_holds (Says (2 ≤ length s)) _ _ _ (λ _ d. never _ _ d)
    (λ _. pick_holds (Says (2 ≤ length s)) _ _ _ (λ _ d. never _ _ d) (λ e d. start_long s e))

module _ (room : ℕ) where
  -- what was done with less room was done
  scanned : (a : LogAnswer) → is_done (within_room room a) ≡ true → is_done a ≡ true
  unfolding within_room
  scanned (Ok played) d = refl
  scanned (Err r) d = d

  -- and had room
  fits : (p : Played) → is_done (within_room room (Ok p)) ≡ true → p.written ≤ room
  unfolding pick within_room
  fits p e = ltb-false room p.written (go (ltb room p.written) e)
    where
      go : (t : Bool) → is_done (pick t (Err (TooShort p.written)) (Ok p)) ≡ true → t ≡ false
      go true e = cc
      go false e = refl

  module _ (n f : ℕ) (s : List ℕ) where
    pub done_long : is_done (within_room room (scanned_as n f s)) ≡ true → 2 ≤ length s
    done_long d = scanned_long n f s (scanned (scanned_as n f s) d)

    abbrev Fits : LogAnswer → Type 0
    Fits a = is_done (within_room room a) ≡ true → n ≤ room

    marked : (m : Option ℕ) → Fits (or_wrong m (done_as n f (summed (listed s))))
    unfolding within_room
    marked None d = fits _ d
    marked (Some p) d = never _ _ d

    pub done_fits : Fits (scanned_as n f s)
    unfolding scanned_as within_room
    done_fits =
        pick_holds Fits _ _ _ (λ _ d. never _ _ d)
        (λ _. pick_holds Fits _ _ _ (λ _ d. never _ _ d) (λ e. marked (wrong_in (records_of s))))

    -- and its start was good
    abbrev Starts : LogAnswer → Type 0
    Starts a = is_done (within_room room a) ≡ true → bad_start s ≡ false

    pub done_start : Starts (scanned_as n f s)
    unfolding scanned_as within_room
    done_start = pick_holds Starts _ _ _ (λ _ d. cc) (λ _. pick_holds Starts _ _ _ (λ _ d. cc) (λ e _. e))

    -- and nothing was wrong in it
    abbrev Clears : LogAnswer → Type 0
    Clears a = is_done (within_room room a) ≡ true → wrong_in (records_of s) ≡ None

    clear : (m : Option ℕ) → wrong_in (records_of s) ≡ m → Clears (or_wrong m (done_as n f (summed (listed s))))
    unfolding within_room
    clear None e d = e
    clear (Some p) e d = cc

    pub done_clear : Clears (scanned_as n f s)
    unfolding scanned_as within_room
    done_clear =
        pick_holds Clears _ _ _ (λ _ d. cc)
        (λ _. pick_holds Clears _ _ _ (λ _ d. cc) (λ _. clear (wrong_in (records_of s)) refl))

-- the output after it
pub done_out : (a : LogAnswer) (bytes out : List ℕ) → is_done a ≡ true → out_after a bytes out ≡ bytes ++ drop (length bytes) out
done_out (Ok played) bytes out e = refl
done_out (Err r) bytes out e = cc

pub refused_out : (a : LogAnswer) (bytes out : List ℕ) → is_done a ≡ false → out_after a bytes out ≡ out
refused_out (Ok played) bytes out e = cc
refused_out (Err r) bytes out e = refl
