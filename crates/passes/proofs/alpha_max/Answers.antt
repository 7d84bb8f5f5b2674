-- `alpha_max`: the products of all columns and the targets, then their largest. Assumes nothing.
use Rattle.designs.proofs.Laws.Layouts.{samples, features}
use Rattle.passes.proofs.Laws.Rows.{largest-dots}
use borrow.Author.Rules.{rules}
use Rattle.passes.proofs.alpha_max.Goals as goal

pub returns : goal.returns
returns c = (
  largest-dots _ _ _ (samples _ _ _ _ _ _) (features _ _ _ _ _ _) _ _ _ _ (search rules)
      c.requires.1
      c.all_dots.ensures c.largest_abs.ensures,
  c.all_dots.ensures,
)
