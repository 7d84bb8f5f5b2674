-- `last_of`: the second place, if there is one and the first is ahead of it; a test counts as 1 or 0. Assumes nothing.
use Rattle.selection.proofs.Laws.Order.{features}
use Rattle.selection.proofs.Laws.Heap.{byte_most, last-two, last-only}
use borrow.Author.Rules.{rules}
use Rattle.selection.proofs.last_of.Goals as goal

pub ahead-requires : goal.ahead-requires
ahead-requires c =
    let known = c.requires.2 in
    ((known.each _ c.requires.0).inside, (known.each _ c.if-right-kept.true).inside)

pub overflow_add-result : goal.overflow_add-result
overflow_add-result c = let h = byte_most c.ahead.result in search rules

pub returns-then-right-kept : goal.returns-then-right-kept
returns-then-right-kept c =
    let order = features c.args.kkt.now in
    last-two order c.requires.0 c.ahead.result c.if-right-kept.true c.ahead.ensures

pub returns : goal.returns
returns c = last-only (features c.args.kkt.now) c.requires.0 c.if-right-kept.false
