-- At every turn what was found, joined to what the rest of the log has, is what the whole log has; the place moves on by two bytes and more. Assumes nothing.
use native.Mathlib.Omega.{arith}
use Prim.Native.Nat.{◌+◌}
use mathlib.Core.Path.{refl, sym}
use native.Mathlib.Nat.{add-sub_cancel_left}
use Rattle.log_records.proofs.Framing.{body_fits, at_body, clocks_stand}
use Rattle.log_scan.proofs.Counting.{ended, cut_short, turn, turn_good, fits}
use Rattle.log_scan.proofs.scan.scan_list.Goals as goal

-- ---- a clock record
pub add-found-requires : goal.add-found-requires
add-found-requires c =
    let one-clock = c.one_clock in
    let loop = c.loop-clocks in
    let stands = clocks_stand _ _ _ (sym c.in-Some.ensures) in
    rw one-clock.ensures (fits loop.invariant _ _ stands.is c.requires)

pub loop-clocks-smaller-in-Some : goal.loop-clocks-smaller-in-Some
loop-clocks-smaller-in-Some c =
    let stands = clocks_stand _ _ _ (sym c.in-Some.ensures) in
    omega (arith, stands.fits, stands.further, stands.ends)

pub loop-clocks-preserved-in-Some : goal.loop-clocks-preserved-in-Some
loop-clocks-preserved-in-Some c =
    let add = c.add-found in
    let one-clock = c.one_clock in
    let loop = c.loop-clocks in
    let stands = clocks_stand _ _ _ (sym c.in-Some.ensures) in
    rw (add.ensures, one-clock.ensures, stands.ends) (turn_good loop.invariant _ _ stands.is refl stands.fits)

-- ---- the end, or a record cut short
pub returns-in-Ok-None : goal.returns-in-Ok-None
returns-in-Ok-None c =
    let loop = c.loop-clocks in
    ended loop.invariant (sym (rw c.in-Ok-None.field-0-is at c.in-Ok-None.ensures))

pub returns-in-Err : goal.returns-in-Err
returns-in-Err c =
    let loop = c.loop-clocks in
    rw c.or-found.ensures (cut_short loop.invariant (sym c.in-Err.ensures))

-- ---- another record
pub overflow_add-from : goal.overflow_add-from
overflow_add-from c =
    let loop = c.loop-clocks in
    let h = body_fits _ loop.at _ (sym (rw c.in-Ok-Some.field-0-is at c.in-Ok-Some.ensures)) in omega arith

pub overflow_add-to : goal.overflow_add-to
overflow_add-to c =
    let loop = c.loop-clocks in
    let h = body_fits _ loop.at _ (sym (rw c.in-Ok-Some.field-0-is at c.in-Ok-Some.ensures)) in omega arith

pub slice_bounds-scan_record-count : goal.slice_bounds-scan_record-count
slice_bounds-scan_record-count c = omega arith

pub slice_bounds-scan_record-start : goal.slice_bounds-scan_record-start
slice_bounds-scan_record-start c = omega arith

pub slice_bounds-scan_record-end : goal.slice_bounds-scan_record-end
slice_bounds-scan_record-end c =
    let loop = c.loop-clocks in
    let h = body_fits _ loop.at _ (sym (rw c.in-Ok-Some.field-0-is at c.in-Ok-Some.ensures)) in omega arith

pub scan_record-found-requires : goal.scan_record-found-requires
scan_record-found-requires c =
    let loop = c.loop-clocks in
    let n = c.in-Ok-Some.len in
    let is = at_body _ _ loop.at n (sym (rw c.in-Ok-Some.field-0-is at c.in-Ok-Some.ensures)) in
    rw (add-sub_cancel_left (loop.at + 2) n) (fits loop.invariant _ _ is c.requires)

pub loop-clocks-smaller : goal.loop-clocks-smaller
loop-clocks-smaller c =
    let loop = c.loop-clocks in
    let h = body_fits _ loop.at _ (sym (rw c.in-Ok-Some.field-0-is at c.in-Ok-Some.ensures)) in omega arith

pub loop-clocks-preserved : goal.loop-clocks-preserved
loop-clocks-preserved c =
    let loop = c.loop-clocks in
    let n = c.in-Ok-Some.len in
    let cut = sym (rw c.in-Ok-Some.field-0-is at c.in-Ok-Some.ensures) in
    let found = rw (add-sub_cancel_left (loop.at + 2) n) at c.scan_record-found.ensures in
    rw found (turn loop.invariant _ _ (at_body _ _ loop.at n cut) (body_fits _ loop.at n cut))
