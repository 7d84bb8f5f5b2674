-- `put_entry_lines`: the invariant is the lines of the entries passed. Assumes nothing.
use Rattle.listings.proofs.Laws.Lines.{lines_none, lines_room, lines_turn}
use Rattle.listings.proofs.inner.put_entry_lines.Goals as goal

pub loop-i-init : goal.loop-i-init
loop-i-init c = lines_none _ _ _ c.requires

pub put_entry_line-here-requires : goal.put_entry_line-here-requires
put_entry_line-here-requires c = lines_room _ _ _ c.requires _ c.loop-i.invariant c.loop-i-test.true

pub loop-i-preserved : goal.loop-i-preserved
loop-i-preserved c = lines_turn _ _ _ c.requires _ c.loop-i.invariant c.put_entry_line-here.ensures
