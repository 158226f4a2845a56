-- Both arms are the definition at the version. Assumes nothing.
use Rattle.log_records.proofs.judge.clocks_at.Goals as goal

pub returns-then-version-eq1 : goal.returns-then-version-eq1
returns-then-version-eq1 c =
    let clocks-of = c.clocks_of in
    let if1 = c.if-version-eq1 in
    rw if1.true clocks-of.ensures

pub returns-else-version-eq1 : goal.returns-else-version-eq1
returns-else-version-eq1 c =
    let clocks-of2 = c.clocks_of-else-version-eq1 in
    clocks-of2.ensures
