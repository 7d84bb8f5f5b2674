-- `put_labelled`: the name, then the number. Assumes nothing.
use Rattle.listings.proofs.Laws.Chain.{room-first, room_next, wrote_both}
use Rattle.listings.specs.Listing.{labelled}
use Rattle.listings.proofs.inner.put_labelled.Goals as goal

pub put_text-behind-requires : goal.put_text-behind-requires
unfolding labelled
put_text-behind-requires c = room-first _ _ c.requires

pub put_decimal-requires : goal.put_decimal-requires
unfolding labelled
put_decimal-requires c =
    room_next _ _ c.requires c.put_text-behind.ensures

pub returns : goal.returns
unfolding labelled
returns c = wrote_both c.put_text-behind.ensures c.put_decimal.ensures
