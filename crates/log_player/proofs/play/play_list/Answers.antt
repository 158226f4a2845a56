-- At every turn what is owed and what is to come of the log make what all of its records make from the start; with each turn less of it is to come, or
-- nothing is owed any more. Assumes nothing.
use native.Mathlib.Omega.{arith}
use Prim.Native.Nat.{◌≤◌}
use mathlib.Core.Path.{◌≡◌, sym, ◌∙◌, ap}
use Rattle.ground.proofs.Cases.{pick_true, pick_false}
use lib.IntN.{pos}
use mir.Syntax.{w8}
use mir.Val.{to_z, of_z}
use Rattle.clocks.proofs.Positions.{read_back, next_read}
use Rattle.apu.specs.With.{with_position}
use Rattle.apu_clock.specs.Sequencer.{advanced}
use Rattle.apu_clock.proofs.Idling.{idles}
use Rattle.apu_run.specs.declared.frames.Parts.{Parts}
use Rattle.apu_run.specs.Owed.{marked}
use Rattle.apu_run.proofs.Settling.{Settled, settled_held, put_is}
use Rattle.log_player.proofs.Groups.{pulse1_put, pulse2_put, wave_put, noise_put}
use Rattle.log_player.proofs.Bodies.{group-written}
use Rattle.log_player.proofs.Walking.{walking, b_ready, paid_room, t_ready, paid_on, over, item_room, item_on, item_written}
use Rattle.log_player.proofs.Walking.{part_none, part_some, ahead_next, may_wait, waited}
use Rattle.log_player.proofs.play.play_list.Goals as goal
use Rattle.log_player.proofs.play.play_list.Goals.{then-silent, else-silent}

pub loop-apu-init : goal.loop-apu-init
loop-apu-init c =
    let begin = c.begin-r in
    walking (record { held = c.requires.held; floats = c.requires.floats_held }) c.requires.apu_in_bounds begin.ensures

pub reckon-r-requires : goal.reckon-r-requires
reckon-r-requires c =
    let loop = c.loop-apu in
    record { between = loop.invariant.between; more_bound = loop.invariant.few; half_bound = loop.invariant.going.ready.held.clocks }

-- ---- what is owed waits
pub waits-requires : goal.waits-requires
waits-requires c =
    let reckon = c.reckon-r in
    let loop = c.loop-apu in
    let k = reckon.ensures.reckons in
    record { owed_bound = k.few; more_bound = k.fewer; held = (b_ready loop.invariant k).held }

pub next_position-requires : goal.next_position-requires
next_position-requires c =
    let loop = c.loop-apu in
    let held = loop.invariant.going.ready.held in
    rw (read_back loop.apu.sequencer_position held.position) held.position

pub position_of-requires : goal.position_of-requires
position_of-requires c =
    let next-position = c.next_position in
    let if1 = c.if-waits in
    let waits = c.waits in
    let reckon = c.reckon-r in
    let loop = c.loop-apu in
    let b = marked loop.apu reckon.result.half reckon.result.stored in
    let w = may_wait reckon.result b (sym waits.ensures ∙ if1.true) in
    rw (next_read b.sequencer_position _ loop.invariant.going.ready.held.position next-position.ensures) (idles b w.idle).next

pub overflow_add-r : goal.overflow_add-r
overflow_add-r c =
    let reckon = c.reckon-r in
    omega (arith, reckon.ensures.reckons.few, reckon.ensures.reckons.fewer)

pub loop-apu-smaller-then-waits : goal.loop-apu-smaller-then-waits
loop-apu-smaller-then-waits c =
    let if1 = c.if-waits in
    let waits = c.waits in
    let reckon = c.reckon-r in
    let loop = c.loop-apu in
    let b = marked loop.apu reckon.result.half reckon.result.stored in
    let w = may_wait reckon.result b (sym waits.ensures ∙ if1.true) in
    omega (arith, reckon.ensures.reckons.falls w.fell)

pub loop-apu-preserved-then-waits : goal.loop-apu-preserved-then-waits
loop-apu-preserved-then-waits c =
    let position-of = c.position_of in
    let next-position = c.next_position in
    let if1 = c.if-waits in
    let waits = c.waits in
    let reckon = c.reckon-r in
    let loop = c.loop-apu in
    let b = marked loop.apu reckon.result.half reckon.result.stored in
    let w = may_wait reckon.result b (sym waits.ensures ∙ if1.true) in
    let next = next_read b.sequencer_position _ loop.invariant.going.ready.held.position next-position.ensures in
    let small : c.next_position.result ≤ 7 = rw next (idles b w.idle).next in
    let stored : to_z w8 (of_z w8 position-of.result) ≡ pos c.next_position.result = rw position-of.ensures (read_back (pos c.next_position.result) small) in
    waited loop.invariant reckon.ensures.reckons w (ap (with_position b) (stored ∙ ap pos next))

-- ---- what is owed is played
pub rest-ran-requires : goal.rest-ran-requires
rest-ran-requires c =
    let if3 = c.if-silent in
    let silent = c.silent in
    let reckon = c.reckon-r in
    let loop = c.loop-apu in
    let k = reckon.ensures.reckons in
    let ready = b_ready loop.invariant k in
    record {
      unit_value = sym silent.ensures ∙ if3.true;
      held = ready.held;
      floats_held = ready.floats;
      count_bound = k.few;
      unit_in_bounds = paid_room loop.invariant k;
    }

pub sound-ran-requires : goal.sound-ran-requires
sound-ran-requires c =
    let reckon = c.reckon-r in
    let loop = c.loop-apu in
    let k = reckon.ensures.reckons in
    let ready = b_ready loop.invariant k in
    record { held = ready.held; floats_held = ready.floats; count_bound = k.few; unit_in_bounds = paid_room loop.invariant k }

pub put_back-apu-requires : goal.put_back-apu-requires
put_back-apu-requires c =
    let if3 = c.if-silent in
    let reckon = c.reckon-r in
    let loop = c.loop-apu in
    let k = reckon.ensures.reckons in
    let b = marked loop.apu reckon.result.half reckon.result.stored in
    let ran : Settled b reckon.result.owed loop.out loop.place if3.ran if3.out =
    elim if3.branch [
      | then-silent w ↦ record { is = w.ran-is ∙ w.rest-ran.ensures.value; bytes = w.out-is ∙ w.rest-ran.ensures.out_after }
      | else-silent w ↦ record { is = w.ran-is ∙ w.sound-ran.ensures.value; bytes = w.out-is ∙ w.sound-ran.ensures.out_after }
    ] in
    settled_held ran (b_ready loop.invariant reckon.ensures.reckons)

pub advance-apu-requires : goal.advance-apu-requires
advance-apu-requires c =
    let put_back = c.put_back-apu in
    let if3 = c.if-silent in
    let reckon = c.reckon-r in
    let loop = c.loop-apu in
    let k = reckon.ensures.reckons in
    let b = marked loop.apu reckon.result.half reckon.result.stored in
    let ran : Settled b reckon.result.owed loop.out loop.place if3.ran if3.out =
    elim if3.branch [
      | then-silent w ↦ record { is = w.ran-is ∙ w.rest-ran.ensures.value; bytes = w.out-is ∙ w.rest-ran.ensures.out_after }
      | else-silent w ↦ record { is = w.ran-is ∙ w.sound-ran.ensures.value; bytes = w.out-is ∙ w.sound-ran.ensures.out_after }
    ] in
    rw (put_is ran put_back.ensures) (t_ready loop.invariant k).held

pub loop-apu-smaller-then-r : goal.loop-apu-smaller-then-r
loop-apu-smaller-then-r c =
    let if2 = c.if-r-ne0 in
    let reckon = c.reckon-r in
    omega (arith, reckon.ensures.reckons.less, if2.true)

pub loop-apu-preserved-then-r : goal.loop-apu-preserved-then-r
loop-apu-preserved-then-r c =
    let advance = c.advance-apu in
    let if4 = c.if-r in
    let put_back = c.put_back-apu in
    let if3 = c.if-silent in
    let reckon = c.reckon-r in
    let loop = c.loop-apu in
    let k = reckon.ensures.reckons in
    let b = marked loop.apu reckon.result.half reckon.result.stored in
    let ran : Settled b reckon.result.owed loop.out loop.place if3.ran if3.out =
    elim if3.branch [
      | then-silent w ↦ record { is = w.ran-is ∙ w.rest-ran.ensures.value; bytes = w.out-is ∙ w.rest-ran.ensures.out_after }
      | else-silent w ↦ record { is = w.ran-is ∙ w.sound-ran.ensures.value; bytes = w.out-is ∙ w.sound-ran.ensures.out_after }
    ] in
    let unit = advance.ensures ∙ ap advanced (put_is ran put_back.ensures) ∙ sym (pick_true _ _ _ if4.true) in
    paid_on loop.invariant k unit (ap (λ (x : Parts). x.at) ran.is) ran.bytes

pub loop-apu-smaller-else-r : goal.loop-apu-smaller-else-r
loop-apu-smaller-else-r c =
    let if2 = c.if-r-ne0 in
    let reckon = c.reckon-r in
    omega (arith, reckon.ensures.reckons.less, if2.true)

pub loop-apu-preserved-else-r : goal.loop-apu-preserved-else-r
loop-apu-preserved-else-r c =
    let if4 = c.if-r in
    let put_back = c.put_back-apu in
    let if3 = c.if-silent in
    let reckon = c.reckon-r in
    let loop = c.loop-apu in
    let k = reckon.ensures.reckons in
    let b = marked loop.apu reckon.result.half reckon.result.stored in
    let ran : Settled b reckon.result.owed loop.out loop.place if3.ran if3.out =
    elim if3.branch [
      | then-silent w ↦ record { is = w.ran-is ∙ w.rest-ran.ensures.value; bytes = w.out-is ∙ w.rest-ran.ensures.out_after }
      | else-silent w ↦ record { is = w.ran-is ∙ w.sound-ran.ensures.value; bytes = w.out-is ∙ w.sound-ran.ensures.out_after }
    ] in
    let unit = put_is ran put_back.ensures ∙ sym (pick_false _ _ _ if4.false) in
    paid_on loop.invariant k unit (ap (λ (x : Parts). x.at) ran.is) ran.bytes

-- ---- a record
pub shape_of-out-in_default : goal.shape_of-out-in_default
shape_of-out-in_default c =
    let loop = c.loop-apu in
    loop.invariant.going.same

pub returns-in_default : goal.returns-in_default
returns-in_default c =
    let if2 = c.if-r-ne0 in
    let reckon = c.reckon-r in
    let loop = c.loop-apu in
    let z = if2.false in
    let both = over loop.invariant reckon.ensures.reckons z (reckon.ensures.idle z) (part_none _ _ _ c.part_at.ensures c.in_default.not-Some) in
    record { value = both.0; out_after = both.1.0; still_held = both.1.1 }

pub overflow_add-from : goal.overflow_add-from
overflow_add-from c =
    let reckon = c.reckon-r in
    let lies = part_some c.args.version c.args.log.now reckon.result.at (sym c.in-Some.ensures) in
    omega (arith, lies.from, lies.fits, c.well_formed)

pub slice_bounds-body-count : goal.slice_bounds-body-count
slice_bounds-body-count c =
    let reckon = c.reckon-r in
    let lies = part_some c.args.version c.args.log.now reckon.result.at (sym c.in-Some.ensures) in
    omega (arith, lies.from, lies.fits, c.well_formed)

pub slice_bounds-body-start : goal.slice_bounds-body-start
slice_bounds-body-start c =
    let reckon = c.reckon-r in
    let lies = part_some c.args.version c.args.log.now reckon.result.at (sym c.in-Some.ensures) in
    omega (arith, lies.from, lies.fits, c.well_formed)

pub slice_bounds-body-end : goal.slice_bounds-body-end
slice_bounds-body-end c =
    let reckon = c.reckon-r in
    let lies = part_some c.args.version c.args.log.now reckon.result.at (sym c.in-Some.ensures) in
    omega (arith, lies.from, lies.fits, c.well_formed)

pub next_position-requires-else-r-ne0 : goal.next_position-requires-else-r-ne0
next_position-requires-else-r-ne0 c =
    let loop = c.loop-apu in
    let held = loop.invariant.going.ready.held in
    rw (read_back loop.apu.sequencer_position held.position) held.position

pub write-apu-requires : goal.write-apu-requires
write-apu-requires c =
    let loop = c.loop-apu in
    loop.invariant.going.ready.held.pulse1

pub loop-apu-smaller-in-Pulse1 : goal.loop-apu-smaller-in-Pulse1
loop-apu-smaller-in-Pulse1 c =
    let if2 = c.if-r-ne0 in
    let reckon = c.reckon-r in
    let lies = part_some c.args.version c.args.log.now reckon.result.at (sym c.in-Some.ensures) in
    let idle = reckon.ensures.idle if2.false in
    omega (arith, ahead_next lies idle.0, reckon.ensures.reckons.less)

pub loop-apu-preserved-in-Pulse1 : goal.loop-apu-preserved-in-Pulse1
loop-apu-preserved-in-Pulse1 c =
    let write = c.write-apu in
    let next-position2 = c.next_position-else-r-ne0 in
    let if2 = c.if-r-ne0 in
    let reckon = c.reckon-r in
    let loop = c.loop-apu in
    let lies = part_some c.args.version c.args.log.now reckon.result.at (sym c.in-Some.ensures) in
    let k = reckon.ensures.reckons in
    let z = if2.false in
    let w = c.in-Some-group_write.write in
    let b = marked loop.apu reckon.result.half reckon.result.stored in
    let next = next_read loop.apu.sequencer_position _ loop.invariant.going.ready.held.position next-position2.ensures in
    let put = pulse1_put w b next c.in-Pulse1.is write.ensures in
    let said = c.in-Some-group_write.ensures ∙ group-written _ _ _ in
    item_written loop.invariant k z (reckon.ensures.idle z) lies said (omega arith) put

pub write-apu-requires-in-Pulse2 : goal.write-apu-requires-in-Pulse2
write-apu-requires-in-Pulse2 c =
    let loop = c.loop-apu in
    loop.invariant.going.ready.held.pulse2

pub loop-apu-smaller-in-Pulse2 : goal.loop-apu-smaller-in-Pulse2
loop-apu-smaller-in-Pulse2 c =
    let if2 = c.if-r-ne0 in
    let reckon = c.reckon-r in
    let lies = part_some c.args.version c.args.log.now reckon.result.at (sym c.in-Some.ensures) in
    let idle = reckon.ensures.idle if2.false in
    omega (arith, ahead_next lies idle.0, reckon.ensures.reckons.less)

pub loop-apu-preserved-in-Pulse2 : goal.loop-apu-preserved-in-Pulse2
loop-apu-preserved-in-Pulse2 c =
    let write2 = c.write-apu-in-Pulse2 in
    let next-position2 = c.next_position-else-r-ne0 in
    let if2 = c.if-r-ne0 in
    let reckon = c.reckon-r in
    let loop = c.loop-apu in
    let lies = part_some c.args.version c.args.log.now reckon.result.at (sym c.in-Some.ensures) in
    let k = reckon.ensures.reckons in
    let z = if2.false in
    let w = c.in-Some-group_write.write in
    let b = marked loop.apu reckon.result.half reckon.result.stored in
    let next = next_read loop.apu.sequencer_position _ loop.invariant.going.ready.held.position next-position2.ensures in
    let put = pulse2_put w b next c.in-Pulse2.is write2.ensures in
    let said = c.in-Some-group_write.ensures ∙ group-written _ _ _ in
    item_written loop.invariant k z (reckon.ensures.idle z) lies said (omega arith) put

pub write-apu-requires-in-Wave : goal.write-apu-requires-in-Wave
write-apu-requires-in-Wave c =
    let loop = c.loop-apu in
    loop.invariant.going.ready.held.wave

pub loop-apu-smaller-in-Wave : goal.loop-apu-smaller-in-Wave
loop-apu-smaller-in-Wave c =
    let if2 = c.if-r-ne0 in
    let reckon = c.reckon-r in
    let lies = part_some c.args.version c.args.log.now reckon.result.at (sym c.in-Some.ensures) in
    let idle = reckon.ensures.idle if2.false in
    omega (arith, ahead_next lies idle.0, reckon.ensures.reckons.less)

pub loop-apu-preserved-in-Wave : goal.loop-apu-preserved-in-Wave
loop-apu-preserved-in-Wave c =
    let write3 = c.write-apu-in-Wave in
    let next-position2 = c.next_position-else-r-ne0 in
    let if2 = c.if-r-ne0 in
    let reckon = c.reckon-r in
    let loop = c.loop-apu in
    let lies = part_some c.args.version c.args.log.now reckon.result.at (sym c.in-Some.ensures) in
    let k = reckon.ensures.reckons in
    let z = if2.false in
    let w = c.in-Some-group_write.write in
    let b = marked loop.apu reckon.result.half reckon.result.stored in
    let next = next_read loop.apu.sequencer_position _ loop.invariant.going.ready.held.position next-position2.ensures in
    let put = wave_put w b next c.in-Wave.is write3.ensures in
    let said = c.in-Some-group_write.ensures ∙ group-written _ _ _ in
    item_written loop.invariant k z (reckon.ensures.idle z) lies said (omega arith) put

pub write-apu-requires-in-Noise : goal.write-apu-requires-in-Noise
write-apu-requires-in-Noise c =
    let loop = c.loop-apu in
    loop.invariant.going.ready.held.noise

pub loop-apu-smaller-in-Noise : goal.loop-apu-smaller-in-Noise
loop-apu-smaller-in-Noise c =
    let if2 = c.if-r-ne0 in
    let reckon = c.reckon-r in
    let lies = part_some c.args.version c.args.log.now reckon.result.at (sym c.in-Some.ensures) in
    let idle = reckon.ensures.idle if2.false in
    omega (arith, ahead_next lies idle.0, reckon.ensures.reckons.less)

pub loop-apu-preserved-in-Noise : goal.loop-apu-preserved-in-Noise
loop-apu-preserved-in-Noise c =
    let write4 = c.write-apu-in-Noise in
    let next-position2 = c.next_position-else-r-ne0 in
    let if2 = c.if-r-ne0 in
    let reckon = c.reckon-r in
    let loop = c.loop-apu in
    let lies = part_some c.args.version c.args.log.now reckon.result.at (sym c.in-Some.ensures) in
    let k = reckon.ensures.reckons in
    let z = if2.false in
    let w = c.in-Some-group_write.write in
    let b = marked loop.apu reckon.result.half reckon.result.stored in
    let next = next_read loop.apu.sequencer_position _ loop.invariant.going.ready.held.position next-position2.ensures in
    let put = noise_put w b next c.in-Noise.is write4.ensures in
    let said = c.in-Some-group_write.ensures ∙ group-written _ _ _ in
    item_written loop.invariant k z (reckon.ensures.idle z) lies said (omega arith) put

pub play_record-q-requires : goal.play_record-q-requires
play_record-q-requires c =
    let if2 = c.if-r-ne0 in
    let reckon = c.reckon-r in
    let loop = c.loop-apu in
    let lies = part_some c.args.version c.args.log.now reckon.result.at (sym c.in-Some.ensures) in
    let k = reckon.ensures.reckons in
    let z = if2.false in
    let ready = b_ready loop.invariant k in
    record { held = ready.held; floats_held = ready.floats; apu_in_bounds = item_room loop.invariant k z (reckon.ensures.idle z) lies }

pub loop-apu-smaller : goal.loop-apu-smaller
loop-apu-smaller c =
    let if2 = c.if-r-ne0 in
    let reckon = c.reckon-r in
    let lies = part_some c.args.version c.args.log.now reckon.result.at (sym c.in-Some.ensures) in
    let idle = reckon.ensures.idle if2.false in
    omega (arith, ahead_next lies idle.0, reckon.ensures.reckons.less)

pub loop-apu-preserved : goal.loop-apu-preserved
loop-apu-preserved c =
    let play-record = c.play_record-q in
    let if2 = c.if-r-ne0 in
    let reckon = c.reckon-r in
    let loop = c.loop-apu in
    let lies = part_some c.args.version c.args.log.now reckon.result.at (sym c.in-Some.ensures) in
    let k = reckon.ensures.reckons in
    let z = if2.false in
    let played = play-record.ensures in
    let ready = rw played.value at played.still_held in
    rw (played.value, played.out_after) (item_on loop.invariant k z (reckon.ensures.idle z) lies (record { held = ready.0; floats = ready.1 }))
