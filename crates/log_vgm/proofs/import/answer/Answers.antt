-- Each way out is the case of `imported_of` that the header and the scan pick. Assumes nothing.
use mathlib.Core.Path.{sym, ◌∙◌}
use Rattle.std.proofs.lemmas.Result.{err_from_is_err_and}
use Rattle.log_vgm.proofs.Headers.{header_long}
use Rattle.log_vgm.proofs.Answering.{bad_header_is, fitted_is, stopped_is}
use Rattle.log_vgm.proofs.import.answer.Goals as goal

pub returns-then-bad_header : goal.returns-then-bad_header
returns-then-bad_header c = bad_header_is _ _ (sym c.bad_header.ensures ∙ c.if-bad_header.true)

pub start_of-requires : goal.start_of-requires
start_of-requires c = header_long _ (sym c.bad_header.ensures ∙ c.if-bad_header.false)

pub returns-in_err-bytes : goal.returns-in_err-bytes
returns-in_err-bytes c =
    let right = sym c.bad_header.ensures ∙ c.if-bad_header.false in
    let scanned = rw (c.starting.ensures, c.start_of.ensures) at c.scan.ensures in
    let p = err_from_is_err_and c.from_residual.result c.from_residual.ensures.1 in
    rw (p.1, p.2) (stopped_is _ _ right scanned c.in_err-bytes.was)

pub returns : goal.returns
returns c =
    let right = sym c.bad_header.ensures ∙ c.if-bad_header.false in
    let scanned = rw (c.starting.ensures, c.start_of.ensures) at c.scan.ensures in
    c.fit.ensures ∙ fitted_is _ _ right scanned c.in_ok-bytes.was
