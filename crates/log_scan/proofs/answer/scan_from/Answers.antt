-- Each way out is the case of `scanned_as` that the tests and the scan pick. Assumes nothing.
use Rattle.std.specs.Prelude.{Ok}
use Rattle.ground.specs.Pick.{pick}
use Rattle.log_scan.specs.Answers.{LogAnswer, scanned_as, scanned_from, refused_for, returned_for}
use Prim.Native.Nat.{ℕ}
use mathlib.Core.List.{List}
use mathlib.Core.Path.{◌≡◌, refl, sym, ◌∙◌, ap, subst}
use Rattle.log_records.specs.Records.{records_from, version_of}
use Rattle.log_scan.specs.Scan.{found_all}
use Rattle.log_scan.specs.declared.scan.Found.{Found}
use Rattle.log_scan.proofs.Bounds.{small}
use Rattle.log_scan.proofs.Refusals.{scan_refuses}
use borrow.Author.Tests.{lt-ltb, le-ltb}
use Rattle.log_scan.proofs.answer.scan_from.Goals as goal

-- what the scan found, by the log's own version
abbrev Listed : Found → ℕ → List ℕ → Type 0
Listed found version log = found ≡ found_all (records_from version log 2)

own : (log : List ℕ) {found : Found} {version : ℕ} → Listed found version log → version ≡ version_of log → Listed found (version_of log) log
own log {found} e v = subst (λ (n : ℕ). Listed found n log) v e

pub returns-then-long : goal.returns-then-long
unfolding pick scanned_as refused_for returned_for
returns-then-long c = record { value = rw (lt-ltb _ _ c.if-long.true); result_value = rw (lt-ltb _ _ c.if-long.true) (refl, refl) }

pub returns-then-bad : goal.returns-then-bad
unfolding pick scanned_as refused_for returned_for
returns-then-bad c =
    record {
      value = rw (le-ltb _ _ c.if-long.false, ← c.bad_start-bad.ensures, c.if-bad.true);
      result_value = rw (le-ltb _ _ c.if-long.false, ← c.bad_start-bad.ensures, c.if-bad.true) (refl, refl);
    }

pub scan_list-found-requires : goal.scan_list-found-requires
scan_list-found-requires c = c.if-long.false

pub counted-requires : goal.counted-requires
counted-requires c =
    let scan-list = c.scan_list-found in
    let if1 = c.if-long in
    let pre = c.requires in
    record { held = pre; small = rw scan-list.ensures (small _ _ if1.false) }

pub returns-in-None : goal.returns-in-None
unfolding pick scanned_as
returns-in-None c =
    let scan-list = c.scan_list-found in
    let version_of = c.version_of in
    let if2 = c.if-bad in
    let if1 = c.if-long in
    let at-bad-start = c.bad_start-bad in
    let args = c.args in
    let counted = c.counted in
    let found = own args.log.now scan-list.ensures version_of.ensures in
    let first = sym (ap (λ (f : Found). f.wrong) found) ∙ c.in-None.is in
    let is : ◌≡◌ {A = LogAnswer} (Ok counted.result) (scanned_from args.meter args.log.now) =
    rw (le-ltb _ _ if1.false, ← at-bad-start.ensures, if2.false, first) (ap Ok (rw found at counted.ensures)) in
    record {
      value = is;
      result_value = (scan_refuses _ _ is).1;
    }

pub returns-in-Some : goal.returns-in-Some
unfolding pick scanned_as refused_for returned_for
returns-in-Some c =
    let scan-list = c.scan_list-found in
    let version_of = c.version_of in
    let if2 = c.if-bad in
    let if1 = c.if-long in
    let at-bad-start = c.bad_start-bad in
    let args = c.args in
    let found = own args.log.now scan-list.ensures version_of.ensures in
    let first = sym (ap (λ (f : Found). f.wrong) found) ∙ c.in-Some.is in
    record {
      value = rw (le-ltb _ _ if1.false, ← at-bad-start.ensures, if2.false, first);
      result_value = rw (le-ltb _ _ if1.false, ← at-bad-start.ensures, if2.false, first) (refl, refl);
    }
