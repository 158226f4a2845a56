-- The bytes from the place on say which case holds. Assumes nothing.
use native.Mathlib.Omega.{arith}
use Rattle.log_records.proofs.Cutting.{cut_past, cut_none, cut_one, cut_over, cut_some}
use Rattle.log_records.proofs.cut.cut_at.Goals as goal

pub returns-in_default : goal.returns-in_default
returns-in_default c = cut_past _ _ c.in_default.ensures.lookup.0

pub returns-in-empty : goal.returns-in-empty
returns-in-empty c = let r = c.in-Some.ensures.lookup.0 in cut_none _ _ r.2 r.3 c.in-empty.len_below

pub returns-in_default-rest-2 : goal.returns-in_default-rest-2
returns-in_default-rest-2 c = let r = c.in-Some.ensures.lookup.0 in cut_one _ _ r.2 r.3 c.in_default-rest-2.len_at_least c.in_default-rest.len_below

pub returns-then-after-len : goal.returns-then-after-len
returns-then-after-len c =
    let r = c.in-Some.ensures.lookup.0 in
    cut_over _ _ r.2 r.3 _ c.in-len2-up.len_at_least c.from_be_bytes-len.ensures (omega (arith, c.if-after-len.true))

pub returns-in-len2-up : goal.returns-in-len2-up
returns-in-len2-up c =
    let r = c.in-Some.ensures.lookup.0 in
    cut_some _ _ r.2 r.3 _ c.in-len2-up.len_at_least c.from_be_bytes-len.ensures (omega (arith, c.if-after-len.false))
