-- `put_refusal`: the number, then the place. Assumes nothing.
use Rattle.listings.proofs.Laws.Chain.{room-first, room_next, wrote_both}
use Rattle.listings.specs.Listing.{refused_line, codes}
use Rattle.listings.proofs.inner.put_refusal.Goals as goal

pub put_labelled-behind-requires : goal.put_labelled-behind-requires
unfolding refused_line codes
put_labelled-behind-requires c = rw c.number.ensures (room-first _ _ c.requires)

pub put_count_line-requires : goal.put_count_line-requires
unfolding refused_line codes
put_count_line-requires c =
    room_next _ _ c.requires (rw c.number.ensures at c.put_labelled-behind.ensures)

pub returns : goal.returns
unfolding refused_line codes
returns c =
    wrote_both (rw c.number.ensures at c.put_labelled-behind.ensures) c.put_count_line.ensures
