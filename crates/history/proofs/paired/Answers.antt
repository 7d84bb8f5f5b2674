-- `paired`: below the diagonal the entry stands in a row above, the other way round. Assumes nothing.
use Rattle.history.proofs.Laws.System.{from-above}
use Rattle.history.proofs.paired.Goals as goal

pub returns-then-l-k : goal.returns-then-l-k
returns-then-l-k c =
    from-above _ _ _ _ _ c.requires.5 _ c.if-l-k.true c.requires.0 c.requires.2
