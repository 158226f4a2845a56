-- Below 2 half-clocks the call ends, else it is a working clock; which answers are refusals follows. Assumes nothing.
use Rattle.frame.proofs.Lending.{same_five}
use Rattle.apu_clock.proofs.Calling.{short_way, long_way}
use Rattle.apu_clock.proofs.Given.{clock_given}
use Rattle.apu_clock.proofs.clock.clock.Goals as goal

pub returns-then-half-lt2 : goal.returns-then-half-lt2
returns-then-half-lt2 c =
    let a = c.args in
    let both = clock_given a.unit a.double a.divider a.place _ _ _ c.requires
    (short_way a.unit a.double a.divider a.place _ _ c.half_clocks.ensures.value c.if-half-lt2.true) in
    record { all_after = both.0; same = same_five _; held = both.1 }

pub returns : goal.returns
returns c =
    let a = c.args in
    let both = clock_given a.unit a.double a.divider a.place _ _ _ c.requires
    (long_way a.unit a.double a.divider a.place _ _ c.half_clocks.ensures.value _ c.if-half-lt2.false c.work.ensures.value) in
    record { all_after = both.0; same = c.work.ensures.same; held = both.1 }
