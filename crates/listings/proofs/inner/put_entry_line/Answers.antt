-- `put_entry_line`: the label, then the double. Assumes nothing.
use Rattle.listings.proofs.Laws.Chain.{room-first, room_next, wrote_both}
use Rattle.listings.specs.Listing.{entry_line, codes}
use Rattle.listings.proofs.inner.put_entry_line.Goals as goal

pub put_labelled-behind-requires : goal.put_labelled-behind-requires
unfolding entry_line
put_labelled-behind-requires c = room-first _ _ c.requires

pub put_bits_line-requires : goal.put_bits_line-requires
unfolding entry_line codes
put_bits_line-requires c =
    room_next _ _ c.requires c.put_labelled-behind.ensures

pub returns : goal.returns
unfolding entry_line codes
returns c =
    wrote_both c.put_labelled-behind.ensures c.put_bits_line.ensures
