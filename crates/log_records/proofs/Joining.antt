-- The records of two logs of one version in one: a log of whole records, and after it another without its first two bytes. Each record is cut out as where it
-- stood, since what is cut at a place is told by the bytes from there on. Assumes nothing.
use Prim.Native.Nat.{ℕ, zero, suc, ◌+◌, ◌-◌, ◌*◌, ◌≤◌, ◌<◌}
use mathlib.Core.Path.{◌≡◌, refl, sym, ◌∙◌, ap, ap₂}
use mathlib.Core.List.{List, [], ◌∷◌, ◌++◌}
use mathlib.Core.Bool.{Bool, true, false}
use native.Mathlib.Nat.{zero-add, add-zero, suc-add, add_assoc, le_of_suc-le-suc, not-suc-le-zero, le_antisymm, le_refl}
use native.Mathlib.Omega.{arith}
use borrow.Author.Tests.{leb-true, leb-false, le-leb, lt-leb}
use lib.ListN.{length, get_or, take, drop, length-drop, length-append, get_or-append}
use lib.Dec.{leb}
use Rattle.std.specs.Prelude.{Some, None, Ok, Err}
use Rattle.log_records.specs.Judge.{Judged, word, judge_of}
use Rattle.log_records.specs.Records.{Cut, Parsed, done, short, item, cut_at, body_at, grow, records_from, records_step, unrolled}
use Rattle.log_records.specs.Records.{listed_as, version_of, listed}
use Rattle.log_records.proofs.Framing.{body_fits, body_is, end_past, some_cut, at_end, at_short, at_body}

-- ---- what lies in front of a list, and what lies behind
pub get_d_drop : (k i : ℕ) (s : List ℕ) → get_or (drop k s) i 0 ≡ get_or s (k + i) 0
get_d_drop zero i s = ap (λ (n : ℕ). get_or s n 0) (sym (zero-add i))
get_d_drop (suc k) i [] = refl
get_d_drop (suc k) i (x ∷ s) = get_d_drop k i s ∙ ap (λ (n : ℕ). get_or (x ∷ s) n 0) (sym (suc-add k i))

drop_none : (n : ℕ) → drop {A = ℕ} n [] ≡ []
drop_none zero = refl
drop_none (suc n) = refl

drop_drop : (i k : ℕ) (s : List ℕ) → drop i (drop k s) ≡ drop (k + i) s
drop_drop i zero s = ap (λ (n : ℕ). drop n s) (sym (zero-add i))
drop_drop i (suc k) [] = drop_none i ∙ sym (drop_none (suc k + i))
drop_drop i (suc k) (x ∷ s) = drop_drop i k s ∙ ap (λ (n : ℕ). drop n (x ∷ s)) (sym (suc-add k i))

drop_front : (k : ℕ) (xs ys : List ℕ) → k ≤ length xs → drop k (xs ++ ys) ≡ drop k xs ++ ys
drop_front zero xs ys h = refl
drop_front (suc k) [] ys h = absurd (not-suc-le-zero h)
drop_front (suc k) (x ∷ xs) ys h = drop_front k xs ys (le_of_suc-le-suc h)

drop_all : (xs ys : List ℕ) → drop (length xs) (xs ++ ys) ≡ ys
drop_all [] ys = refl
drop_all (x ∷ xs) ys = drop_all xs ys

take_front : (n : ℕ) (xs ys : List ℕ) → n ≤ length xs → take n (xs ++ ys) ≡ take n xs
take_front zero xs ys h = refl
take_front (suc n) [] ys h = absurd (not-suc-le-zero h)
take_front (suc n) (x ∷ xs) ys h = ap (λ (l : List ℕ). x ∷ l) (take_front n xs ys (le_of_suc-le-suc h))

-- ---- records without their places
unfoldable pub placeless : Parsed → Parsed
placeless done = done
placeless (short p) = short 0
placeless (item p r rest) = item 0 r (placeless rest)

-- one row after another: a record cut short ends both
unfoldable pub joined : Parsed → Parsed → Parsed
joined done q = q
joined (short p) q = short p
joined (item p r rest) q = item p r (joined rest q)

-- whether no record is cut short
unfoldable pub whole : Parsed → Bool
whole done = true
whole (short p) = false
whole (item p r rest) = whole rest

pub unrolled_placeless : (p : Parsed) → unrolled (placeless p) ≡ unrolled p
unfolding placeless
unrolled_placeless done = refl
unrolled_placeless (short p) = refl
unrolled_placeless (item p r rest) = ap (λ (l : List Judged). r ∷ l) (unrolled_placeless rest)

unrolled_joined : (p q : Parsed) → whole p ≡ true → unrolled (joined (placeless p) (placeless q)) ≡ unrolled p ++ unrolled q
unfolding placeless joined whole
unrolled_joined done q w = unrolled_placeless q
unrolled_joined (short p) q w = let z : ◌≡◌ {A = ℕ} 0 1 = cc in absurd (omega arith)
unrolled_joined (item p r rest) q w = ap (λ (l : List Judged). r ∷ l) (unrolled_joined rest q w)

-- ---- a log without its first k bytes
module _ (v : ℕ) (s : List ℕ) (k : ℕ) where
  leb_shift : (n i : ℕ) → leb (n - k) i ≡ leb n (k + i)
  leb_shift n i = go (leb n (k + i)) refl
    where
      go : (b : Bool) → leb n (k + i) ≡ b → leb (n - k) i ≡ b
      go true e = let h = leb-true n (k + i) e in le-leb (n - k) i (omega arith)
      go false e = let h = leb-false n (k + i) e in lt-leb (n - k) i (omega arith)

  cut_shift : (i : ℕ) → cut_at (drop k s) i ≡ cut_at s (k + i)
  unfolding cut_at
  cut_shift i =
      let left : length s - k - i ≡ length s - (k + i) = omega arith in
      rw (length-drop k s, leb_shift (length s) i, left, get_d_drop k i s, get_d_drop k (i + 1) s, ← add_assoc k i 1)

  body_shift : (i n : ℕ) → body_at (drop k s) i n ≡ body_at s (k + i) n
  body_shift i n = ap (take n) (drop_drop (i + 2) k s ∙ ap (λ (m : ℕ). drop m s) (sym (add_assoc k i 2)))

  -- by what stands at the place, and what is known of the rest
  first_shift : (i : ℕ) (c : Cut)
      → ((n : ℕ) → c ≡ Ok (Some n) → placeless (records_from v (drop k s) (i + 2 + n)) ≡ placeless (records_from v s (k + i + 2 + n)))
      → placeless (grow v (drop k s) i (records_from v (drop k s)) c) ≡ placeless (grow v s (k + i) (records_from v s) c)
  unfolding placeless
  first_shift i (Ok None) rest = refl
  first_shift i (Err fault) rest = refl
  first_shift i (Ok (Some n)) rest = ap₂ (λ (r : Judged) (p : Parsed). item 0 r p) (ap (judge_of v) (body_shift i n)) (rest n refl)

  step_shift : (i : ℕ)
      → ((n : ℕ) → cut_at s (k + i) ≡ Ok (Some n) → placeless (records_from v (drop k s) (i + 2 + n)) ≡ placeless (records_from v s (k + i + 2 + n)))
      → placeless (records_from v (drop k s) i) ≡ placeless (records_from v s (k + i))
  step_shift i rest =
      ap placeless (records_step v (drop k s) i ∙ ap (grow v (drop k s) i (records_from v (drop k s))) (cut_shift i))
      ∙ first_shift i (cut_at s (k + i)) rest
      ∙ sym (ap placeless (records_step v s (k + i)))

  rows_shift : (f i : ℕ) → length s - (k + i) ≤ f → placeless (records_from v (drop k s) i) ≡ placeless (records_from v s (k + i))
  rows_shift zero i h = step_shift i (λ n e. let b = body_fits s (k + i) n e in absurd (omega arith))
  rows_shift (suc f) i h =
      step_shift i
      (λ n e.
      let next : k + (i + 2 + n) ≡ k + i + 2 + n = omega arith in
      rows_shift f (i + 2 + n) (omega arith) ∙ ap (λ (m : ℕ). placeless (records_from v s m)) next)

  -- its records from a place on are the log's from k places further on
  pub records_shift : (i : ℕ) → placeless (records_from v (drop k s) i) ≡ placeless (records_from v s (k + i))
  records_shift i = rows_shift (length s - (k + i)) i (le_refl _)

-- ---- a log in front of more bytes
module _ (v : ℕ) (s more : List ℕ) where
  front_word : (at : ℕ) → at + 1 < length s → word (s ++ more) at ≡ word s at
  front_word at h =
      let here : at < length s = omega arith in
      ap₂ (λ (x y : ℕ). x * 256 + y) (get_or-append s more 0 at here) (get_or-append s more 0 (at + 1) h)

  front_cut : (at n : ℕ) → cut_at s at ≡ Ok (Some n) → cut_at (s ++ more) at ≡ Ok (Some n)
  front_cut at n e =
      let b = body_fits s at n e in
      some_cut (s ++ more) at n (rw (length-append s more) (omega arith)) (front_word at (omega arith) ∙ body_is s at n e)

  front_body : (at n : ℕ) → at + 2 + n ≤ length s → body_at (s ++ more) at n ≡ body_at s at n
  front_body at n h =
      ap (take n) (drop_front (at + 2) s more (omega arith)) ∙ take_front n (drop (at + 2) s) more (rw (length-drop (at + 2) s) (omega arith))

  -- where the log ends, the rest begins
  behind : placeless (records_from v (s ++ more) (length s)) ≡ placeless (records_from v more 0)
  behind =
      ap (λ (n : ℕ). placeless (records_from v (s ++ more) n)) (sym (add-zero (length s)))
      ∙ sym (records_shift v (s ++ more) (length s) 0)
      ∙ ap (λ (l : List ℕ). placeless (records_from v l 0)) (drop_all s more)

  abbrev Joins : ℕ → Type 0
  Joins at = placeless (records_from v (s ++ more) at) ≡ joined (placeless (records_from v s at)) (placeless (records_from v more 0))

  step_join : (at : ℕ) (c : Cut) → cut_at s at ≡ c → at ≤ length s → whole (records_from v s at) ≡ true
      → ((n : ℕ) → at + 2 + n ≤ length s → whole (records_from v s (at + 2 + n)) ≡ true → Joins (at + 2 + n)) → Joins at
  unfolding placeless joined whole
  step_join at (Ok None) e h w rest =
      let here : at ≡ length s = le_antisymm h (end_past s at e) in
      rw (at_end v s at e) (rw here behind)
  step_join at (Err fault) e h w rest = let z : ◌≡◌ {A = Bool} false true = rw (at_short v s at e) at w in let y : ◌≡◌ {A = ℕ} 0 1 = cc in absurd (omega arith)
  step_join at (Ok (Some n)) e h w rest =
      let b = body_fits s at n e in
      let r = rest n b (rw (at_body v s at n e) at w) in
      rw (at_body v s at n e, at_body v (s ++ more) at n (front_cut at n e), front_body at n b, r)

  rows_join : (f at : ℕ) → length s - at ≤ f → at ≤ length s → whole (records_from v s at) ≡ true → Joins at
  rows_join zero at l h w = step_join at (cut_at s at) refl h w (λ n b _. absurd (omega arith))
  rows_join (suc f) at l h w = step_join at (cut_at s at) refl h w (λ n b v. rows_join f (at + 2 + n) (omega arith) b v)

-- THE LAW: in a version, the records of the one, then those of the other, with their places ignored
module _ (v : ℕ) (s t : List ℕ) (h : 2 ≤ length s) (w : whole (records_from v s 2) ≡ true) where
  pub records_join : placeless (records_from v (s ++ drop 2 t) 2) ≡ joined (placeless (records_from v s 2)) (placeless (records_from v t 2))
  records_join =
      rows_join v s (drop 2 t) (length s - 2) 2 (le_refl _) h w ∙ ap (joined (placeless (records_from v s 2))) (records_shift v t 2 0)

  -- and without them
  rows_listed : listed_as v (s ++ drop 2 t) ≡ listed_as v s ++ listed_as v t
  rows_listed =
      sym (unrolled_placeless (records_from v (s ++ drop 2 t) 2))
      ∙ ap unrolled records_join
      ∙ unrolled_joined (records_from v s 2) (records_from v t 2) w

-- of two logs of one version
module _ (s t : List ℕ) (h : 2 ≤ length s) where
  pub version_join : version_of (s ++ drop 2 t) ≡ version_of s
  version_join = let some : 0 < length s = omega arith in get_or-append s (drop 2 t) 0 0 some

  pub listed_join : version_of t ≡ version_of s → whole (records_from (version_of s) s 2) ≡ true → listed (s ++ drop 2 t) ≡ listed s ++ listed t
  listed_join same w = rw (version_join, same) (rows_listed (version_of s) s t h w)
