-- `clear_below`: the invariant is the definition's loop up to row t. Assumes nothing.
use mathlib.Core.Path.{refl, ◌∙◌}
use borrow.Author.Rules.{rules}
use Rattle.doubles.proofs.Laws.Steps.{upward-none, upward-turn, upward-all}
use Rattle.elimination.specs.Elimination.{cleared_below}
use Rattle.elimination.proofs.inner.System.clear_below.Goals as goal

pub loop-t-init : goal.loop-t-init
loop-t-init c = (refl, search rules, upward-none _ _ _)

pub loop-t-preserved : goal.loop-t-preserved
loop-t-preserved c =
    let before = c.loop-t.invariant in
    let row = c.clear_row.ensures in
    (row.1 ∙ before.0, search rules, upward-turn _ _ _ _ _ _ before.1 before.2 (rw before.0 at row.0))

pub returns : goal.returns
unfolding cleared_below
returns c =
    let before = c.loop-t.invariant in
    (upward-all _ _ _ _ _ _ before.2 (search rules) (search rules), before.0)
