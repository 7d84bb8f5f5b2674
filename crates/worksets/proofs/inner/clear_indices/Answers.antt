-- `clear_indices`: `fill` writes the same number everywhere. Assumes nothing.
use mathlib.Core.Path.{◌∙◌}
use Rattle.worksets.proofs.Laws.Places.{zeros}
use Rattle.worksets.proofs.inner.clear_indices.Goals as goal

pub returns : goal.returns
returns c = c.fill.ensures.after (λ y e. e) ∙ zeros _
