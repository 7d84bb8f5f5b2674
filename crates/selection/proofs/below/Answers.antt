-- `below`: the one behind of the two places below, against x. Assumes nothing.
use mathlib.Core.Path.{sym, ◌∙◌}
use Rattle.selection.proofs.Laws.Order.{features}
use Rattle.selection.proofs.Laws.Heap.{goes_down, goes_nowhere, goes_no_further}
use Rattle.selection.proofs.below.Goals as goal

pub ahead-requires : goal.ahead-requires
ahead-requires c =
    (c.requires.3.inside, (c.requires.2.each _ c.last_of-last.ensures.inside).inside)

pub returns-then-ahead : goal.returns-then-ahead
returns-then-ahead c =
    let last = c.last_of-last.ensures in
    goes_down (features c.args.kkt.now) c.requires.2 c.requires.3 last (sym c.ahead.ensures ∙ c.if-ahead.true)

pub returns-else-ahead : goal.returns-else-ahead
returns-else-ahead c =
    let last = c.last_of-last.ensures in
    goes_nowhere (features c.args.kkt.now) c.requires.2 c.requires.3 last (sym c.ahead.ensures ∙ c.if-ahead.false)

pub returns-else-left-kept : goal.returns-else-left-kept
returns-else-left-kept c = goes_no_further (features c.args.kkt.now) c.if-left-kept.false
