-- `all_gradients`: the products of all columns, then the last pass. Assumes nothing.
use Rattle.designs.proofs.Laws.Layouts.{samples, features}
use Rattle.passes.proofs.Laws.Rows.{dots_grad}
use borrow.Author.Rules.{rules}
use Rattle.passes.proofs.all_gradients.Goals as goal

pub returns : goal.returns
returns c =
    dots_grad _ _ _ (samples _ _ _ _ _ _) (features _ _ _ _ _ _) _ _ _ _ _ (search rules)
    c.all_dots.ensures c.finish.ensures
