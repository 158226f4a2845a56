-- A log that is answered with no refusal has room, and is played from the front of the output; the version is the log's own. Assumes nothing.
use mathlib.Core.Path.{refl, ap, ◌∙◌}
use native.Mathlib.Nat.{zero-add}
use lib.ListN.{length}
use Rattle.std.specs.Prelude.{Ok}
use Rattle.log_records.specs.Records.{listed}
use Rattle.log_player.specs.Playing.{unit_of_start, output}
use Rattle.log_player.proofs.Answering.{room, put_out, told_on}
use Rattle.log_player.proofs.log.play_log.Goals as goal

pub play_list-requires-clause-apu_in_bounds : goal.play_list-requires-clause-apu_in_bounds
play_list-requires-clause-apu_in_bounds c =
    let args = c.args in
    let unit = c.start-apu.result in
    rw (c.version_of.ensures, zero-add (length (output (listed args.log.now) unit)))
    (room unit args.log.now args.out.now {answer = Ok c.in_ok-played.played} c.in_ok-played.ensures.value refl)

pub returns-clause-out_after : goal.returns-clause-out_after
returns-clause-out_after c =
    let args = c.args in
    let unit = c.start-apu.result in
    let is = c.start-apu.ensures.value ∙ ap unit_of_start c.start_byte.ensures in
    let answered = c.in_ok-played.ensures.value in
    let put = put_out unit args.log.now args.out.now {answer = Ok c.in_ok-played.played} answered refl in
    (told_on unit args.log.now args.out.now {answer = Ok c.in_ok-played.played} answered is
    (rw c.version_of.ensures at c.play_list.ensures.out_after ∙ put)).1.0
