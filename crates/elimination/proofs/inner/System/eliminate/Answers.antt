-- `eliminate`: one pass, then the other. Assumes nothing.
use mathlib.Core.Path.{◌∙◌}
use Rattle.elimination.specs.Elimination.{eliminated}
use Rattle.elimination.proofs.inner.System.eliminate.Goals as goal

pub returns : goal.returns
unfolding eliminated
returns c =
    let down = c.to_echelon_form.ensures in
    let up = c.back_substitute.ensures in
    (up.0 ∙ rw (down.1, down.0), up.1 ∙ down.1)
