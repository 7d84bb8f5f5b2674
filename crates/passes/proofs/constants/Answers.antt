-- `constants`: the squares of all columns, then the division. Assumes nothing.
use Rattle.designs.proofs.Laws.Layouts.{samples, features}
use Rattle.passes.proofs.Laws.Rows.{squares-constants}
use borrow.Author.Rules.{rules}
use Rattle.passes.proofs.constants.Goals as goal

pub returns : goal.returns
returns c =
    squares-constants _ _ _ (samples _ _ _ _ _ _) (features _ _ _ _ _ _) _ _ _ (search rules)
    c.all_squares.ensures c.divide.ensures
