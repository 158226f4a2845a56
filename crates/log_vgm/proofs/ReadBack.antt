-- A log of version 2 written from right records is read back as those records: each is cut out and judged by itself. Assumes nothing.
use Prim.Native.Nat.{ℕ, ◌+◌, ◌*◌, ◌/◌, ◌%◌, ◌≤◌}
use mathlib.Core.Path.{◌≡◌, refl, ap, ap₂, ◌∙◌}
use mathlib.Core.Bool.{Bool, true, false}
use mathlib.Core.List.{List, [], ◌∷◌, ◌++◌}
use native.Mathlib.Nat.{not-suc-le-zero}
use native.Mathlib.Omega.{arith}
use borrow.Author.Tests.{le-leb}
use lib.ListN.{length}
use Rattle.std.specs.Prelude.{None, Ok, Err, Some}
use Rattle.ground.specs.Pick.{pick}
use Rattle.ground.specs.Num.{is_sound}
use Rattle.log_records.specs.Judge.{Judged, write_of, read_of, clock_length, divider_in, clock_of, pcm_of, judge_of}
use Rattle.log_records.specs.Records.{Parsed, done, item, cut_at, body_at, records_from, records_of, listed, unrolled}
use Rattle.log_records.specs.declared.divider.Divider.TheVariants.{Standing, Running}
use Rattle.log_records.specs.declared.judge.Record.TheVariants.{Write, Read, Clock, Pcm}
use Rattle.log_records.proofs.Framing.{at_end, at_body}
use Rattle.log_scan.specs.Scan.{wrong_in}
use Rattle.log_scan.proofs.Joining.{clear_listed_join, clear_join}
use Rattle.log_vgm.specs.Log.{record_bytes, written}

-- a record that version 2 can say
abbrev pub Right : Judged → Type 0
Right (Ok (Write addr value)) = is_sound addr ≡ true
Right (Ok (Read addr)) = is_sound addr ≡ true
Right (Ok (Clock double (Standing byte phase) count)) = 1 ≤ 0
Right (Ok (Clock double (Running byte phase) count)) = (phase ≤ 63) × ((1 ≤ count) × (count ≤ 16384))
Right (Ok Pcm) = 0 ≤ 0
Right (Err fault) = 1 ≤ 0

abbrev pub Each : List Judged → Type 0
Each [] = 0 ≤ 0
Each (r ∷ l) = Right r × Each l

pub each_append : (l m : List Judged) → Each l → Each m → Each (l ++ m)
each_append [] m p q = q
each_append (r ∷ l) m p q = (p.0, each_append l m p.1 q)

-- ---- its body says it
two_bytes : (n : ℕ) → n / 256 * 256 + n % 256 ≡ n
two_bytes n = omega arith

judged_write : (addr value : ℕ) → is_sound addr ≡ true → judge_of 2 (1 ∷ addr / 256 ∷ addr % 256 ∷ value ∷ []) ≡ Ok (Write addr value)
unfolding judge_of write_of pick
judged_write addr value h = rw (two_bytes addr, h)

judged_read : (addr : ℕ) → is_sound addr ≡ true → judge_of 2 (2 ∷ addr / 256 ∷ addr % 256 ∷ []) ≡ Ok (Read addr)
unfolding judge_of read_of pick
judged_read addr h = rw (two_bytes addr, h)

judged_clock : (double : Bool) (byte phase count : ℕ) → Right (Ok (Clock double (Running byte phase) count))
    → judge_of 2 (3 ∷ pick double 1 0 ∷ byte ∷ phase ∷ count / 256 ∷ count % 256 ∷ []) ≡ Ok (Clock double (Running byte phase) count)
unfolding judge_of clock_of clock_length divider_in pick
judged_clock true byte phase count (p, (lo, hi)) = rw (two_bytes count, le-leb phase 63 p, le-leb 1 count lo, le-leb count 16384 hi)
judged_clock false byte phase count (p, (lo, hi)) = rw (two_bytes count, le-leb phase 63 p, le-leb 1 count lo, le-leb count 16384 hi)

judged_pcm : judge_of 2 (4 ∷ []) ≡ Ok Pcm
unfolding judge_of pcm_of pick
judged_pcm = refl

-- ---- a log of it alone
abbrev log_of_one : Judged → List ℕ
log_of_one r = 2 ∷ 1 ∷ record_bytes r

-- its body ends where the log does
alone : (s : List ℕ) (n : ℕ) (r : Judged) → cut_at s 2 ≡ Ok (Some n) → cut_at s (2 + 2 + n) ≡ Ok None → judge_of 2 (body_at s 2 n) ≡ r
    → records_from 2 s 2 ≡ item 2 r done
alone s n r body end says = at_body 2 s 2 n body ∙ ap₂ (λ (x : Judged) (p : Parsed). item 2 x p) says (at_end 2 s (2 + 2 + n) end)

one : (r : Judged) → Right r → records_of (log_of_one r) ≡ item 2 r done
unfolding cut_at pick
one (Ok (Write addr value)) h = alone (log_of_one (Ok (Write addr value))) 4 (Ok (Write addr value)) refl refl (judged_write addr value h)
one (Ok (Read addr)) h = alone (log_of_one (Ok (Read addr))) 3 (Ok (Read addr)) refl refl (judged_read addr h)
one (Ok (Clock double (Standing byte phase) count)) h = absurd (not-suc-le-zero h)
one (Ok (Clock double (Running byte phase) count)) h =
    let r : Judged = Ok (Clock double (Running byte phase) count) in
    alone (log_of_one r) 6 r refl refl (judged_clock double byte phase count h)
one (Ok Pcm) h = alone (log_of_one (Ok Pcm)) 1 (Ok Pcm) refl refl judged_pcm
one (Err fault) h = absurd (not-suc-le-zero h)

right_clear : (r : Judged) → Right r → wrong_in (item 2 r done) ≡ None
unfolding wrong_in
right_clear (Ok (Write addr value)) h = refl
right_clear (Ok (Read addr)) h = refl
right_clear (Ok (Clock double d count)) h = refl
right_clear (Ok Pcm) h = refl
right_clear (Err fault) h = absurd (not-suc-le-zero h)

nothing : records_of (2 ∷ 1 ∷ []) ≡ done
unfolding cut_at pick
nothing = at_end 2 (2 ∷ 1 ∷ []) 2 refl

-- ---- THE LAW, for all of them
abbrev log_of_all : List Judged → List ℕ
log_of_all l = 2 ∷ 1 ∷ written l

pub read_back : (l : List Judged) → Each l → (listed (log_of_all l) ≡ l) × (wrong_in (records_of (log_of_all l)) ≡ None)
unfolding written wrong_in
read_back [] h = (ap unrolled nothing, ap wrong_in nothing)
read_back (r ∷ l) h =
    let s = log_of_one r in
    let is = one r h.0 in
    let clear = ap wrong_in is ∙ right_clear r h.0 in
    let rest = read_back l h.1 in
    let long : 2 ≤ length s = omega arith in (
      clear_listed_join s (log_of_all l) long refl clear ∙ ap₂ ◌++◌ (ap unrolled is) rest.0,
      clear_join s (log_of_all l) long refl clear rest.1,
    )
