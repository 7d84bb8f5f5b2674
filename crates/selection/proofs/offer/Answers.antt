-- `offer`: by the weight, and by whether j stands ahead of the root. Assumes nothing.
use Rattle.doubles.specs.Num.{◌and◌}
use Rattle.doubles.proofs.Laws.Counts.{same_self}
use Rattle.selection.specs.Inner.Heap.{offered}
use Rattle.selection.proofs.Laws.Heap.{heap_later}
use native.Mathlib.Omega.{arith}
use Rattle.selection.proofs.offer.Goals as goal

pub ahead-requires : goal.ahead-requires
ahead-requires c =
    ((c.requires.4 c.if-w.true).inside, (c.requires.3.each 0 c.requires.0).inside)

pub sink-requires : goal.sink-requires
sink-requires c =
    (c.requires.0, c.requires.1, c.requires.3, c.requires.4 c.if-w.true, heap_later 1 (omega arith) c.requires.5)

pub returns-then-ahead : goal.returns-then-ahead
unfolding offered ◌and◌
returns-then-ahead c =
    let sunk = c.sink in (
      sunk.ensures.0,
      rw (c.if-w.true, ← c.ahead.ensures, c.if-ahead.true) sunk.ensures.1,
    )

pub returns-else-ahead : goal.returns-else-ahead
unfolding offered ◌and◌
returns-else-ahead c = (
  c.requires.5,
  rw (c.if-w.true, ← c.ahead.ensures, c.if-ahead.false) (same_self c.args.kept.now),
)

pub returns-else-w : goal.returns-else-w
unfolding offered ◌and◌
returns-else-w c = (c.requires.5, rw c.if-w.false (same_self c.args.kept.now))
