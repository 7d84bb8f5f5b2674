-- `gradient_j`: the product of the column, and the gradient from it. Assumes nothing.
use mathlib.Core.Path.{◌∙◌}
use Rattle.designs.specs.Design.{gradient}
use Rattle.designs.proofs.Laws.Layouts.{samples}
use Rattle.quadratic.proofs.gradient_j.Goals as goal

pub returns : goal.returns
unfolding gradient
returns c = c.gradient_from.ensures ∙ rw (c.product_of-q.ensures, c.column_dot-s.ensures, samples)
