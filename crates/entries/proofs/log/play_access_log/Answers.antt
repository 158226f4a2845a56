-- The answer is `play_log`'s, packed. Assumes nothing.
use lib.ListN.{length}
use Rattle.log_player.proofs.Answering.{played_packs}
use Rattle.entries.proofs.log.play_access_log.Goals as goal

pub pack-requires : goal.pack-requires
pack-requires c =
    let play-log = c.play_log in
    let args = c.args in
    rw play-log.ensures.value (played_packs args.log.now (length args.out.now))

pub returns : goal.returns
returns c =
    let play-log = c.play_log in
    record { value = rw (c.pack.ensures, play-log.ensures.value); out_after = rw play-log.ensures.value at play-log.ensures.out_after }
