-- The answer is `play_log`'s, packed, and its counts are put. Assumes nothing.
use lib.ListN.{length}
use Rattle.log_player.proofs.Answering.{played_packs}
use Rattle.entries.proofs.log.play_access_log_counted.Goals as goal

pub pack-requires : goal.pack-requires
pack-requires c =
    let play-log = c.play_log-answer in
    let args = c.args in
    rw play-log.ensures.value (played_packs args.log.now (length args.out.now))

pub returns : goal.returns
returns c =
    let put-counts = c.put_counts in
    let play-log = c.play_log-answer in
    record {
      value = rw (c.pack.ensures, play-log.ensures.value);
      out_after = rw play-log.ensures.value at play-log.ensures.out_after;
      counts_after = rw play-log.ensures.value at put-counts.ensures;
    }
