-- The scan of two logs of one version in one: where nothing is wrong in the first, something is wrong in both exactly if it is in the second, and the sums are
-- those of both. Assumes nothing.
use Prim.Native.Nat.{ℕ, ◌≤◌, ◌<◌}
use mathlib.Core.Path.{◌≡◌, refl, sym, ◌∙◌, ap}
use mathlib.Core.List.{List, ◌++◌}
use mathlib.Core.Bool.{true, false}
use native.Mathlib.Omega.{arith}
use borrow.Author.Tests.{le-ltb}
use lib.ListN.{length, drop, length-append, get_or-append}
use Rattle.std.specs.Prelude.{Option, None, Some, is_some, Ok, Err}
use Rattle.std.specs.Option.{option_or}
use Rattle.log_records.specs.Records.{Parsed, done, short, item, records_from, version_of, records_of, listed}
use Rattle.log_records.proofs.Joining.{placeless, joined, whole, records_join, version_join, listed_join}
use Rattle.log_scan.specs.Scan.{wrong_mark, wrong_in, summed, added}
use Rattle.log_scan.specs.Answers.{bad_start, has_wrong}
use Rattle.log_scan.proofs.Counting.{summed_append}

or_clear : (a b : Option ℕ) → option_or a b ≡ None → (a ≡ None) × (b ≡ None)
or_clear None b e = (refl, e)
or_clear (Some p) b e = (e, cc)

no_place : (m : Option ℕ) → is_some m ≡ false → m ≡ None
no_place None e = refl
no_place (Some p) e = cc

-- a row with nothing wrong has no record cut short
pub clear_whole : (p : Parsed) → wrong_in p ≡ None → whole p ≡ true
unfolding wrong_in whole
clear_whole done e = refl
clear_whole (short p) e = cc
clear_whole (item p r rest) e = clear_whole rest (or_clear (wrong_mark p r) (wrong_in rest) e).1

-- whether something is wrong does not turn on places
placeless_wrong : (p : Parsed) → is_some (wrong_in (placeless p)) ≡ is_some (wrong_in p)
unfolding wrong_in placeless
placeless_wrong done = refl
placeless_wrong (short p) = refl
placeless_wrong (item p (Ok r) rest) = placeless_wrong rest
placeless_wrong (item p (Err fault) rest) = refl

placeless_clear : (p : Parsed) → wrong_in p ≡ None → wrong_in (placeless p) ≡ None
placeless_clear p e = no_place (wrong_in (placeless p)) (placeless_wrong p ∙ ap is_some e)

joined_wrong : (p q : Parsed) → wrong_in p ≡ None → wrong_in (joined p q) ≡ wrong_in q
unfolding wrong_in joined
joined_wrong done q e = refl
joined_wrong (short p) q e = cc
joined_wrong (item p r rest) q e =
    let both = or_clear (wrong_mark p r) (wrong_in rest) e in
    ap (λ (m : Option ℕ). option_or m (wrong_in (joined rest q))) both.0 ∙ joined_wrong rest q both.1

-- THE LAW, for two logs of one version
module _ (s t : List ℕ) (h : 2 ≤ length s) (same : version_of t ≡ version_of s) (clear : wrong_in (records_of s) ≡ None) where
  abbrev v : ℕ
  v = version_of s

  w : whole (records_of s) ≡ true
  w = clear_whole (records_of s) clear

  pub clear_listed_join : listed (s ++ drop 2 t) ≡ listed s ++ listed t
  clear_listed_join = listed_join s t h same w

  pub wrong_join : has_wrong (s ++ drop 2 t) ≡ has_wrong t
  wrong_join =
      rw (version_join s t h, same)
      (sym (placeless_wrong (records_from v (s ++ drop 2 t) 2))
      ∙ ap (λ (p : Parsed). is_some (wrong_in p)) (records_join v s t h w)
      ∙ ap is_some (joined_wrong (placeless (records_of s)) (placeless (records_from v t 2)) (placeless_clear (records_of s) clear))
      ∙ placeless_wrong (records_from v t 2))

  pub clear_join : wrong_in (records_of t) ≡ None → wrong_in (records_of (s ++ drop 2 t)) ≡ None
  clear_join e = no_place (wrong_in (records_of (s ++ drop 2 t))) (wrong_join ∙ ap is_some e)

  pub sums_join : summed (listed (s ++ drop 2 t)) ≡ added (summed (listed s)) (summed (listed t))
  sums_join = ap summed clear_listed_join ∙ summed_append (listed s) (listed t)

-- the start is the first log's
pub start_join : (s more : List ℕ) → 2 ≤ length s → bad_start (s ++ more) ≡ bad_start s
unfolding bad_start
start_join s more h =
    let long : 2 ≤ length (s ++ more) = rw (length-append s more) (omega arith) in
    let first : 0 < length s = omega arith in
    let second : 1 < length s = omega arith in
    rw (le-ltb (length (s ++ more)) 2 long, le-ltb (length s) 2 h, get_or-append s more 0 0 first, get_or-append s more 0 1 second)
