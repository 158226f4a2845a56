-- The bytes of the body say which case holds. Assumes nothing.
use Rattle.std.proofs.Common.{rules}
use Rattle.ground.specs.Pick.{pick}
use Rattle.log_records.specs.Judge.{judge_of, write_of, read_of, pcm_of, clock_of}
use Rattle.log_records.proofs.judge.judge.Goals as goal

pub returns-in_default : goal.returns-in_default
unfolding pick judge_of write_of read_of pcm_of clock_of
returns-in_default c = search rules

pub returns-in_err-addr-in-1-len3 : goal.returns-in_err-addr-in-1-len3
unfolding pick judge_of write_of read_of pcm_of clock_of
returns-in_err-addr-in-1-len3 c = search rules

pub returns-in_err-addr-in-2-len2 : goal.returns-in_err-addr-in-2-len2
unfolding pick judge_of write_of read_of pcm_of clock_of
returns-in_err-addr-in-2-len2 c = search rules

pub returns-in_ok-addr-in-1-len3 : goal.returns-in_ok-addr-in-1-len3
unfolding pick judge_of write_of read_of pcm_of clock_of
returns-in_ok-addr-in-1-len3 c = search rules

pub returns-in_ok-addr-in-2-len2 : goal.returns-in_ok-addr-in-2-len2
unfolding pick judge_of write_of read_of pcm_of clock_of
returns-in_ok-addr-in-2-len2 c = search rules

pub returns-in-3-default : goal.returns-in-3-default
unfolding pick judge_of write_of read_of pcm_of clock_of
returns-in-3-default c = search rules

pub returns-in-4-empty : goal.returns-in-4-empty
unfolding pick judge_of write_of read_of pcm_of clock_of
returns-in-4-empty c = search rules

pub returns-in_default-2 : goal.returns-in_default-2
unfolding pick judge_of write_of read_of pcm_of clock_of
returns-in_default-2 c = search rules

pub returns-in_default-2-2 : goal.returns-in_default-2-2
unfolding pick judge_of write_of read_of pcm_of clock_of
returns-in_default-2-2 c = search rules

pub returns-in_default-2-3 : goal.returns-in_default-2-3
unfolding pick judge_of write_of read_of pcm_of clock_of
returns-in_default-2-3 c = search rules

pub returns-in_default-2-4 : goal.returns-in_default-2-4
unfolding pick judge_of write_of read_of pcm_of clock_of
returns-in_default-2-4 c = search rules

pub returns-in_default-2-5 : goal.returns-in_default-2-5
unfolding pick judge_of write_of read_of pcm_of clock_of
returns-in_default-2-5 c = search rules

pub returns-in_default-2-6 : goal.returns-in_default-2-6
unfolding pick judge_of write_of read_of pcm_of clock_of
returns-in_default-2-6 c = search rules
