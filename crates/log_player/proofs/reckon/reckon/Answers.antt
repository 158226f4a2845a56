-- At every turn owing what was reckoned so far, at its place, is owing what was owed at the start; with each turn less of the log is to come. Assumes nothing.
use native.Mathlib.Omega.{arith}
use mathlib.Core.Path.{refl, sym}
use Rattle.log_player.proofs.Reckoning.{reckoning, none_of, calls_left, calls_few}
use Rattle.log_player.proofs.Reckoning.{Turn, turn_of, turn_count, turn_few, turn_fell, Past, past_all, past_some}
use Rattle.log_player.proofs.Reckoning.{reckons_on, reckoning_on, reckons_fell}
use Rattle.log_player.proofs.reckon.reckon.Goals as goal
use Rattle.log_player.proofs.reckon.reckon.Goals.{then-r-count, else-r-count}

pub loop-clocks-init : goal.loop-clocks-init
loop-clocks-init c = reckoning c.requires.between c.requires.more_bound c.requires.half_bound refl refl

pub returns-in_default : goal.returns-in_default
returns-in_default c =
    let loop = c.loop-clocks in
    let inv = loop.invariant in
    record { reckons = inv.far; idle = λ z. (inv.far.place.none (none_of c.clocks_at.ensures c.in_default.not-Some), (inv.only, inv.level)) }

pub overflow_sub-count : goal.overflow_sub-count
overflow_sub-count c =
    let loop = c.loop-clocks in
    omega (arith, calls_left loop.invariant (sym c.in-Some.ensures))

pub same_bit-some-requires : goal.same_bit-some-requires
same_bit-some-requires c =
    let loop = c.loop-clocks in
    let left = calls_left loop.invariant (sym c.in-Some.ensures) in
    let few = calls_few loop.invariant (sym c.in-Some.ensures) in
    record { i_bound = omega (arith, left, few); le_count = omega (arith, left) }

pub divider_at-requires : goal.divider_at-requires
divider_at-requires c =
    let loop = c.loop-clocks in
    let left = calls_left loop.invariant (sym c.in-Some.ensures) in
    let few = calls_few loop.invariant (sym c.in-Some.ensures) in
    omega (arith, left, few)

pub meet-met-requires : goal.meet-met-requires
meet-met-requires c =
    let same_bit = c.same_bit-some in
    let loop = c.loop-clocks in
    record {
      half_bound = loop.invariant.far.halves;
      count_bound = omega (arith, same_bit.ensures.lower_bound.1, calls_few loop.invariant (sym c.in-Some.ensures));
    }

pub overflow_add-r : goal.overflow_add-r
overflow_add-r c =
    let meet = c.meet-met in
    let sequencer-bit = c.sequencer_bit-bit in
    let divider-at = c.divider_at in
    let same_bit = c.same_bit-some in
    let loop = c.loop-clocks in
    let turn : Turn c.args.version c.args.log.now c.args.power loop.r c.in-Some.clocks same_bit.result meet.result =
    turn_of (sym c.in-Some.ensures) (same_bit.ensures.lower_bound, same_bit.ensures.one_bit) divider-at.ensures sequencer-bit.ensures meet.ensures in
    omega (arith, turn.within, turn_count turn, calls_left loop.invariant (sym c.in-Some.ensures))

pub overflow_add-r-then-met : goal.overflow_add-r-then-met
overflow_add-r-then-met c =
    let if2 = c.if-r-count in
    let meet = c.meet-met in
    let sequencer-bit = c.sequencer_bit-bit in
    let divider-at = c.divider_at in
    let same_bit = c.same_bit-some in
    let loop = c.loop-clocks in
    let turn : Turn c.args.version c.args.log.now c.args.power loop.r c.in-Some.clocks same_bit.result meet.result =
    turn_of (sym c.in-Some.ensures) (same_bit.ensures.lower_bound, same_bit.ensures.one_bit) divider-at.ensures sequencer-bit.ensures meet.ensures in
    let past : Past turn if2.r =
    elim if2.branch [
      | then-r-count w ↦ past_all turn w.if-r-count.true w.r-is
      | else-r-count w ↦ past_some turn w.if-r-count.false w.r-is
    ] in
    omega (arith, past.owed, loop.invariant.little)

pub overflow_sub-r : goal.overflow_sub-r
overflow_sub-r c =
    let if3 = c.if-met in
    let meet = c.meet-met in
    let sequencer-bit = c.sequencer_bit-bit in
    let divider-at = c.divider_at in
    let same_bit = c.same_bit-some in
    let loop = c.loop-clocks in
    let turn : Turn c.args.version c.args.log.now c.args.power loop.r c.in-Some.clocks same_bit.result meet.result =
    turn_of (sym c.in-Some.ensures) (same_bit.ensures.lower_bound, same_bit.ensures.one_bit) divider-at.ensures sequencer-bit.ensures meet.ensures in
    turn_fell turn if3.true

pub returns-then-met : goal.returns-then-met
returns-then-met c =
    let if3 = c.if-met in
    let if2 = c.if-r-count in
    let meet = c.meet-met in
    let sequencer-bit = c.sequencer_bit-bit in
    let divider-at = c.divider_at in
    let same_bit = c.same_bit-some in
    let loop = c.loop-clocks in
    let turn : Turn c.args.version c.args.log.now c.args.power loop.r c.in-Some.clocks same_bit.result meet.result =
    turn_of (sym c.in-Some.ensures) (same_bit.ensures.lower_bound, same_bit.ensures.one_bit) divider-at.ensures sequencer-bit.ensures meet.ensures in
    let past : Past turn if2.r =
    elim if2.branch [
      | then-r-count w ↦ past_all turn w.if-r-count.true w.r-is
      | else-r-count w ↦ past_some turn w.if-r-count.false w.r-is
    ] in
    record { reckons = reckons_fell loop.invariant turn past if3.true; idle = λ z. absurd (omega arith) }

pub overflow_add-r-in-loop-clocks : goal.overflow_add-r-in-loop-clocks
overflow_add-r-in-loop-clocks c =
    let if2 = c.if-r-count in
    let meet = c.meet-met in
    let sequencer-bit = c.sequencer_bit-bit in
    let divider-at = c.divider_at in
    let same_bit = c.same_bit-some in
    let loop = c.loop-clocks in
    let turn : Turn c.args.version c.args.log.now c.args.power loop.r c.in-Some.clocks same_bit.result meet.result =
    turn_of (sym c.in-Some.ensures) (same_bit.ensures.lower_bound, same_bit.ensures.one_bit) divider-at.ensures sequencer-bit.ensures meet.ensures in
    let past : Past turn if2.r =
    elim if2.branch [
      | then-r-count w ↦ past_all turn w.if-r-count.true w.r-is
      | else-r-count w ↦ past_some turn w.if-r-count.false w.r-is
    ] in
    omega (arith, past.owed, loop.invariant.little, turn_few turn loop.invariant.far.halves)

pub returns-then-r-gt16383 : goal.returns-then-r-gt16383
returns-then-r-gt16383 c =
    let if4 = c.if-r-gt16383 in
    let if3 = c.if-met in
    let if2 = c.if-r-count in
    let meet = c.meet-met in
    let sequencer-bit = c.sequencer_bit-bit in
    let divider-at = c.divider_at in
    let same_bit = c.same_bit-some in
    let loop = c.loop-clocks in
    let turn : Turn c.args.version c.args.log.now c.args.power loop.r c.in-Some.clocks same_bit.result meet.result =
    turn_of (sym c.in-Some.ensures) (same_bit.ensures.lower_bound, same_bit.ensures.one_bit) divider-at.ensures sequencer-bit.ensures meet.ensures in
    let past : Past turn if2.r =
    elim if2.branch [
      | then-r-count w ↦ past_all turn w.if-r-count.true w.r-is
      | else-r-count w ↦ past_some turn w.if-r-count.false w.r-is
    ] in
    record { reckons = reckons_on loop.invariant turn past if3.false; idle = λ z. absurd (omega (arith, if4.true)) }

pub loop-clocks-smaller : goal.loop-clocks-smaller
loop-clocks-smaller c =
    let if2 = c.if-r-count in
    let meet = c.meet-met in
    let sequencer-bit = c.sequencer_bit-bit in
    let divider-at = c.divider_at in
    let same_bit = c.same_bit-some in
    let loop = c.loop-clocks in
    let turn : Turn c.args.version c.args.log.now c.args.power loop.r c.in-Some.clocks same_bit.result meet.result =
    turn_of (sym c.in-Some.ensures) (same_bit.ensures.lower_bound, same_bit.ensures.one_bit) divider-at.ensures sequencer-bit.ensures meet.ensures in
    let past : Past turn if2.r =
    elim if2.branch [
      | then-r-count w ↦ past_all turn w.if-r-count.true w.r-is
      | else-r-count w ↦ past_some turn w.if-r-count.false w.r-is
    ] in
    omega (arith, past.passed.less)

pub loop-clocks-preserved : goal.loop-clocks-preserved
loop-clocks-preserved c =
    let if4 = c.if-r-gt16383 in
    let if3 = c.if-met in
    let if2 = c.if-r-count in
    let meet = c.meet-met in
    let sequencer-bit = c.sequencer_bit-bit in
    let divider-at = c.divider_at in
    let same_bit = c.same_bit-some in
    let loop = c.loop-clocks in
    let turn : Turn c.args.version c.args.log.now c.args.power loop.r c.in-Some.clocks same_bit.result meet.result =
    turn_of (sym c.in-Some.ensures) (same_bit.ensures.lower_bound, same_bit.ensures.one_bit) divider-at.ensures sequencer-bit.ensures meet.ensures in
    let past : Past turn if2.r =
    elim if2.branch [
      | then-r-count w ↦ past_all turn w.if-r-count.true w.r-is
      | else-r-count w ↦ past_some turn w.if-r-count.false w.r-is
    ] in
    reckoning_on loop.invariant turn past if3.false (omega (arith, if4.false))
