-- The records of 16,384 calls and the one for the rest are one run of stores. Assumes nothing.
use Prim.Native.Nat.{◌*◌, ◌/◌, ◌%◌}
use native.Mathlib.Omega.{arith}
use Rattle.log_vgm.specs.Log.{clock_record, record_bytes}
use Rattle.log_vgm.proofs.Putting.{part_long, part_put, wholes_fit, rest_fits, none_put, rest_put}
use Rattle.log_vgm.proofs.write.put_wait.Goals as goal

pub put_wholes-requires : goal.put_wholes-requires
put_wholes-requires c =
    let room = rw (← c.calls_in-calls.ensures.0) at c.requires in
    let h = wholes_fit c.args.clockwork.calls c.calls_in-calls.result in
    omega (arith, room, h)

pub returns-then-rest-eq0 : goal.returns-then-rest-eq0
returns-then-rest-eq0 c =
    let put = none_put _ _ _ c.put_wholes.ensures c.if-rest-eq0.true in
    record { out_after = rw (← c.calls_in-calls.ensures.0) put.0; value = rw (← c.calls_in-calls.ensures.0) put.1 }

pub slice_bounds-put-count : goal.slice_bounds-put-count
slice_bounds-put-count c =
    let room = rw (← c.calls_in-calls.ensures.0) at c.requires in
    let h = wholes_fit c.args.clockwork.calls c.calls_in-calls.result in
    omega (arith, room, h, c.put_wholes.auto.out)

pub put-requires : goal.put-requires
put-requires c =
    let room = rw (← c.calls_in-calls.ensures.0) at c.requires in
    let h = rest_fits c.args.clockwork.calls c.calls_in-calls.result c.if-rest-eq0.false in
    rw (c.clock_bytes.ensures, part_long c.put_wholes.new.out (c.calls_in-calls.result / 16384 * 8)) (omega (arith, room, h, c.put_wholes.auto.out))

pub returns : goal.returns
returns c =
    let calls = c.calls_in-calls.result in
    let room = rw (← c.calls_in-calls.ensures.0) at c.requires in
    let h = rest_fits c.args.clockwork.calls calls c.if-rest-eq0.false in
    let last = part_put c.put_wholes.new.out (calls / 16384 * 8) (record_bytes (clock_record c.args.clockwork.calls (calls % 16384)))
    (omega (arith, room, h, c.put_wholes.auto.out)) (rw c.clock_bytes.ensures at c.put.ensures) in
    let put = rest_put _ _ _ c.put_wholes.ensures c.if-rest-eq0.false last in
    record { out_after = rw (← c.calls_in-calls.ensures.0) put.0; value = rw (← c.calls_in-calls.ensures.0) put.1 }

pub slice_bounds-put-start : goal.slice_bounds-put-start
slice_bounds-put-start c =
    let room = rw (← c.calls_in-calls.ensures.0) at c.requires in
    let h = wholes_fit c.args.clockwork.calls c.calls_in-calls.result in
    omega (arith, room, h, c.put_wholes.auto.out)
