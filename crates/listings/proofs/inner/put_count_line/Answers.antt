-- `put_count_line`: the label, then the newline. Assumes nothing.
use Rattle.listings.proofs.Laws.Chain.{room-first, room_next, wrote_both}
use Rattle.listings.specs.Listing.{count_line}
use Rattle.listings.proofs.inner.put_count_line.Goals as goal

pub put_labelled-behind-requires : goal.put_labelled-behind-requires
unfolding count_line
put_labelled-behind-requires c = room-first _ _ c.requires

pub end_line-requires : goal.end_line-requires
unfolding count_line
end_line-requires c =
    room_next _ _ c.requires c.put_labelled-behind.ensures

pub returns : goal.returns
unfolding count_line
returns c = wrote_both c.put_labelled-behind.ensures c.end_line.ensures
