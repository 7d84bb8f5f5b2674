-- `put_listing`: the report, the weights, the fit. Assumes nothing.
use lib.ListN.{length}
use Rattle.listings.proofs.Laws.Chain.{room-first, room_next, wrote_both}
use Rattle.listings.specs.Inner.Wrote.{Room}
use Rattle.listings.specs.Listing.{◌and_then◌, entry_lines, listing, codes}
use Rattle.listings.proofs.inner.put_listing.Goals as goal
use Rattle.listings.proofs.inner.put_listing.Goals.{After-put_report-a}

-- behind the report there is room for the lines of the weights and of the fit
behind-report : (c : After-put_report-a) → let a = c.args in
    Room c.put_report-a.new.out c.put_report-a.result
    (entry_lines (codes "w ") a.w.now (length a.w.now) and_then entry_lines (codes "fit ") a.entries.now (length a.entries.now))
unfolding listing
behind-report c = room_next _ _ c.requires c.put_report-a.ensures

pub put_report-a-requires : goal.put_report-a-requires
unfolding listing codes
put_report-a-requires c = room-first _ _ c.requires

pub put_entry_lines-b-requires : goal.put_entry_lines-b-requires
unfolding listing codes
put_entry_lines-b-requires c = room-first _ _ (behind-report (goal.at.put_entry_lines-b-requires c).After-put_report-a)

pub put_entry_lines-requires : goal.put_entry_lines-requires
unfolding listing codes
put_entry_lines-requires c =
    room_next _ _ (behind-report (goal.at.put_entry_lines-requires c).After-put_report-a) c.put_entry_lines-b.ensures

pub returns : goal.returns
unfolding listing codes
returns c =
    let rest = wrote_both c.put_entry_lines-b.ensures c.put_entry_lines.ensures in
    wrote_both c.put_report-a.ensures rest
