-- The answer is `play_image`'s, packed. Assumes nothing.
use lib.ListN.{length}
use Rattle.image_player.proofs.Answering.{from_packs}
use Rattle.entries.proofs.images.play_from_image.Goals as goal

pub pack-requires : goal.pack-requires
pack-requires c =
    let args = c.args in
    let packs = from_packs args.image.now args.log.now (length args.out.now) (length args.after.now) in
    rw c.play_image.ensures.value packs

pub returns : goal.returns
returns c =
    record {
      value = rw (c.pack.ensures, c.play_image.ensures.value);
      out_after = c.play_image.ensures.out_after;
      after_after = c.play_image.ensures.after_after;
    }
