-- The answer is `play_image`'s, packed, and its counts are put. Assumes nothing.
use lib.ListN.{length}
use Rattle.image_player.proofs.Answering.{from_packs}
use Rattle.entries.proofs.images.play_from_image_counted.Goals as goal

pub pack-requires : goal.pack-requires
pack-requires c =
    let args = c.args in
    let packs = from_packs args.image.now args.log.now (length args.out.now) (length args.after.now) in
    rw c.play_image-answer.ensures.value packs

pub returns : goal.returns
returns c =
    let is = c.play_image-answer.ensures.value in
    let others = c.play_image-answer.ensures in
    record {
      value = rw (c.pack.ensures, is);
      out_after = others.out_after;
      after_after = others.after_after;
      counts_after = rw is at c.put_counts.ensures;
    }
