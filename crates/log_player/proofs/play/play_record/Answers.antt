-- In each way what the judge says is that way's record, and its call does what the record does. Assumes nothing.
use native.Mathlib.Omega.{arith}
use mathlib.Core.Path.{◌≡◌, refl, sym, ap, ◌∙◌}
use Prim.Native.Nat.{ℕ}
use Rattle.std.specs.Prelude.{Result, Ok, Err}
use Rattle.std.specs.Result.{result_unwrap_or}
use Rattle.apu.specs.Answers.{returned_of_read}
use Rattle.apu.specs.declared.registers.WrongAddress.{WrongAddress}
use Rattle.log_records.specs.Judge.{judge_of}
use Rattle.log_records.proofs.Judged.{clock_few}
use Rattle.log_player.proofs.Recorded.{write_made, read_made, pcm_made, clock_made, wrong_made, read_room, pcm_room, clock_room}
use Rattle.log_player.proofs.play.play_record.Goals as goal

-- the byte read, or 0
returned_is : (r : Result ℕ WrongAddress) → result_unwrap_or r 0 ≡ returned_of_read r
returned_is (Ok b) = refl
returned_is (Err wrong) = refl

pub write_register-requires : goal.write_register-requires
write_register-requires c = c.requires.held

pub put_read-requires : goal.put_read-requires
put_read-requires c =
    let a = c.args in
    let is = sym (rw c.in-Ok-Read.field-0-is at c.in-Ok-Read.ensures) in
    read_room (judge_of a.version a.body.now) a.p a.out.now c.requires.apu_in_bounds _ is

pub overflow_add-result : goal.overflow_add-result
overflow_add-result c =
    let a = c.args in
    let is = sym (rw c.in-Ok-Read.field-0-is at c.in-Ok-Read.ensures) in
    let room = read_room (judge_of a.version a.body.now) a.p a.out.now c.requires.apu_in_bounds _ is in
    omega (arith, room)

pub play_clocks-requires : goal.play_clocks-requires
play_clocks-requires c =
    let a = c.args in
    let is = sym (rw c.in-Ok-Clock.field-0-is at c.in-Ok-Clock.ensures) in
    let few = clock_few a.version a.body.now _ _ _ is in
    let room = clock_room (judge_of a.version a.body.now) a.p a.out.now c.requires.apu_in_bounds _ _ _ is in
    record { held = c.requires.held; floats_held = c.requires.floats_held; from_bound = omega (arith, few); apu_in_bounds = room }

pub read_pcm12-requires : goal.read_pcm12-requires
read_pcm12-requires c = c.requires.held

pub read_pcm34-requires : goal.read_pcm34-requires
read_pcm34-requires c = c.requires.held

pub put_pcm-requires : goal.put_pcm-requires
put_pcm-requires c =
    let a = c.args in
    let is = sym (rw c.in-Ok-Pcm.field-0-is at c.in-Ok-Pcm.ensures) in
    pcm_room (judge_of a.version a.body.now) a.p a.out.now c.requires.apu_in_bounds is

pub overflow_add-result-in-Ok-Pcm : goal.overflow_add-result-in-Ok-Pcm
overflow_add-result-in-Ok-Pcm c =
    let a = c.args in
    let is = sym (rw c.in-Ok-Pcm.field-0-is at c.in-Ok-Pcm.ensures) in
    let room = pcm_room (judge_of a.version a.body.now) a.p a.out.now c.requires.apu_in_bounds is in
    omega (arith, room)

pub returns-in-Ok-Write : goal.returns-in-Ok-Write
returns-in-Ok-Write c =
    let write = c.write_register in
    let a = c.args in
    let is = sym (rw c.in-Ok-Write.field-0-is at c.in-Ok-Write.ensures) in
    let made =
    write_made (judge_of a.version a.body.now) a.p a.out.now c.requires.held c.requires.floats_held
    c.in-Ok-Write.addr c.in-Ok-Write.value write.result is write.ensures.value.0 write.ensures.held in
    record { value = made.0; out_after = made.1.0; still_held = made.1.1 }

pub shape_of-out-in-Ok-Read : goal.shape_of-out-in-Ok-Read
shape_of-out-in-Ok-Read c = c.put_read.auto.out

pub returns-in-Ok-Read : goal.returns-in-Ok-Read
returns-in-Ok-Read c =
    let put = c.put_read in
    let byte = c.unwrap_or in
    let read = c.read_register in
    let a = c.args in
    let is = sym (rw c.in-Ok-Read.field-0-is at c.in-Ok-Read.ensures) in
    let made =
    read_made (judge_of a.version a.body.now) a.p a.out.now c.requires.held c.requires.floats_held
    _ byte.result _ is (byte.ensures ∙ returned_is read.result ∙ ap returned_of_read read.ensures.0) put.ensures in
    record { value = made.0; out_after = made.1.0; still_held = made.1.1 }

pub shape_of-out-in-Ok-Clock : goal.shape_of-out-in-Ok-Clock
shape_of-out-in-Ok-Clock c = c.play_clocks.auto.out

pub returns-in-Ok-Clock : goal.returns-in-Ok-Clock
returns-in-Ok-Clock c =
    let clocks = c.play_clocks in
    let a = c.args in
    let is = sym (rw c.in-Ok-Clock.field-0-is at c.in-Ok-Clock.ensures) in
    let made =
    clock_made (judge_of a.version a.body.now) a.p a.out.now c.requires.held c.requires.floats_held _ _ _ _ _ is
    (clocks.ensures.value, (clocks.ensures.out_after, clocks.ensures.still_held)) in
    record { value = made.0; out_after = made.1.0; still_held = made.1.1 }

pub shape_of-out-in-Ok-Pcm : goal.shape_of-out-in-Ok-Pcm
shape_of-out-in-Ok-Pcm c = c.put_pcm.auto.out

pub returns-in-Ok-Pcm : goal.returns-in-Ok-Pcm
returns-in-Ok-Pcm c =
    let put = c.put_pcm in
    let high = c.read_pcm34 in
    let low = c.read_pcm12 in
    let a = c.args in
    let is = sym (rw c.in-Ok-Pcm.field-0-is at c.in-Ok-Pcm.ensures) in
    let made =
    pcm_made (judge_of a.version a.body.now) a.p a.out.now c.requires.held c.requires.floats_held
    low.result high.result _ is low.ensures high.ensures put.ensures in
    record { value = made.0; out_after = made.1.0; still_held = made.1.1 }

pub returns-in-Err : goal.returns-in-Err
returns-in-Err c =
    let judged = c.judge in
    let a = c.args in
    let is = sym judged.ensures ∙ c.in-Err.is in
    let made =
    wrong_made (judge_of a.version a.body.now) a.p a.out.now c.requires.held c.requires.floats_held is in
    record { value = made.0; out_after = made.1.0; still_held = made.1.1 }
