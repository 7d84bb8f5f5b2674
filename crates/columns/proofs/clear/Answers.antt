-- `clear` is the library's `fill`. Assumes nothing.
use mathlib.Core.Path.{◌∙◌}
use Rattle.doubles.proofs.Laws.Steps.{tab-replicate}
use Rattle.columns.proofs.clear.Goals as goal

pub returns : goal.returns
returns c = c.fill.ensures.after (λ y h. h) ∙ tab-replicate _ _
