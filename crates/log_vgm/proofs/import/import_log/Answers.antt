-- A file that is answered with no refusal has its log put at the front; a refusal leaves the lent bytes. Assumes nothing.
use mathlib.Core.Path.{refl, sym, ap, ◌∙◌}
use lib.ListN.{length}
use Rattle.std.specs.Prelude.{Ok}
use lib.Seq.{sets}
use Rattle.log_vgm.specs.Log.{log_of}
use Rattle.log_vgm.specs.Imports.{is_done}
use Rattle.log_vgm.proofs.Headers.{header_long}
use Rattle.log_vgm.proofs.Answering.{log_from, log_fits, done_header, done_fits, put_after}
use Rattle.log_vgm.proofs.import.import_log.Goals as goal

pub start_of-requires : goal.start_of-requires
start_of-requires c = header_long _ (done_header _ _ (ap is_done (sym c.answer.ensures ∙ c.in_ok-written.was)))

pub put_log-requires : goal.put_log-requires
put_log-requires c =
    let done = ap is_done (sym c.answer.ensures ∙ c.in_ok-written.was) in
    log_fits c.args.vgm.now c.starting.ensures c.start_of.ensures (length c.args.log.now) (done_fits _ _ done).1

pub returns : goal.returns
returns c =
    let is = sym c.in_ok-written.was ∙ c.answer.ensures in
    let s = c.args.vgm.now in
    let out = c.args.log.now in
    let done = ap is_done (sym is) in
    let put = c.put_log.ensures ∙ ap (sets out 0) (log_from s c.starting.ensures c.start_of.ensures) in
    record { value = is; log_after = put ∙ put_after (Ok c.in_ok-written.written) (log_of s) out refl (done_fits _ _ done).1 }
