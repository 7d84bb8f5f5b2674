-- `put_report`: the five lines in their order. Assumes nothing.
use Rattle.listings.proofs.Laws.Chain.{room-first, room_next, wrote_both}
use Rattle.listings.specs.Listing.{report_lines, codes}
use Rattle.listings.proofs.inner.put_report.Goals as goal

pub put_count_line-a-requires : goal.put_count_line-a-requires
unfolding report_lines codes
put_count_line-a-requires c = rw c.number.ensures (room-first _ _ c.requires)

pub put_bits_line-b-requires : goal.put_bits_line-b-requires
unfolding report_lines codes
put_bits_line-b-requires c =
    room-first _ _ (room_next _ _ c.requires (rw c.number.ensures at c.put_count_line-a.ensures))

pub put_count_line-c-requires : goal.put_count_line-c-requires
unfolding report_lines codes
put_count_line-c-requires c =
    let behind = room_next _ _ c.requires (rw c.number.ensures at c.put_count_line-a.ensures) in
    room-first _ _ (room_next _ _ behind c.put_bits_line-b.ensures)

pub put_count_line-d-requires : goal.put_count_line-d-requires
unfolding report_lines codes
put_count_line-d-requires c =
    let behind = room_next _ _ c.requires (rw c.number.ensures at c.put_count_line-a.ensures) in
    let behind-two = room_next _ _ behind c.put_bits_line-b.ensures in
    room-first _ _ (room_next _ _ behind-two c.put_count_line-c.ensures)

pub put_count_line-requires : goal.put_count_line-requires
unfolding report_lines codes
put_count_line-requires c =
    let behind = room_next _ _ c.requires (rw c.number.ensures at c.put_count_line-a.ensures) in
    let behind-two = room_next _ _ behind c.put_bits_line-b.ensures in
    let behind-three = room_next _ _ behind-two c.put_count_line-c.ensures in
    room_next _ _ behind-three c.put_count_line-d.ensures

pub returns : goal.returns
unfolding report_lines codes
returns c =
    let last-two = wrote_both c.put_count_line-d.ensures c.put_count_line.ensures in
    let last-three = wrote_both c.put_count_line-c.ensures last-two in
    wrote_both (rw c.number.ensures at c.put_count_line-a.ensures) (wrote_both c.put_bits_line-b.ensures last-three)
