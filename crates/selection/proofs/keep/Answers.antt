-- `keep`: by the weight. Assumes nothing.
use mathlib.Core.Path.{refl}
use Rattle.selection.proofs.keep.Goals as goal

pub returns-then-w : goal.returns-then-w
returns-then-w c = rw c.if-w.true (refl, refl)

pub returns : goal.returns
returns c = rw c.if-w.false (refl, refl)
