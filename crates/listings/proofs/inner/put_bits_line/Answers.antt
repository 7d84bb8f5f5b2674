-- `put_bits_line`: the name, the digits, the newline. Assumes nothing.
use Rattle.listings.proofs.Laws.Chain.{room-first, room_next, wrote_both}
use Rattle.listings.specs.Listing.{bits_line}
use Rattle.listings.proofs.inner.put_bits_line.Goals as goal

pub put_text-named-requires : goal.put_text-named-requires
unfolding bits_line
put_text-named-requires c = room-first _ _ c.requires

pub put_bits-behind-requires : goal.put_bits-behind-requires
unfolding bits_line
put_bits-behind-requires c =
    room-first _ _ (room_next _ _ c.requires c.put_text-named.ensures)

pub end_line-requires : goal.end_line-requires
unfolding bits_line
end_line-requires c =
    let behind = room_next _ _ c.requires c.put_text-named.ensures in
    room_next _ _ behind c.put_bits-behind.ensures

pub returns : goal.returns
unfolding bits_line
returns c =
    let rest = wrote_both c.put_bits-behind.ensures c.end_line.ensures in
    wrote_both c.put_text-named.ensures rest
