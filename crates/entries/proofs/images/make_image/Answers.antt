-- The answer is `fresh_image`'s, packed. Assumes nothing.
use lib.ListN.{length}
use Rattle.image_player.proofs.Making.{made_packs}
use Rattle.entries.proofs.images.make_image.Goals as goal

pub pack-requires : goal.pack-requires
pack-requires c = rw c.fresh_image.ensures.value (made_packs c.args.start (length c.args.image.now))

pub returns : goal.returns
returns c = record { value = rw (c.pack.ensures, c.fresh_image.ensures.value); image_after = c.fresh_image.ensures.out_after }
