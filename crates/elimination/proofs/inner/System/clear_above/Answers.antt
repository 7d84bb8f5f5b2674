-- `clear_above`: the invariant is the definition's loop down to row t. Assumes nothing.
use mathlib.Core.Path.{refl, ◌∙◌}
use borrow.Author.Rules.{rules}
use Rattle.doubles.proofs.Laws.Steps.{downward-none, downward-turn, downward-all}
use Rattle.elimination.specs.Elimination.{cleared_above}
use Rattle.elimination.proofs.inner.System.clear_above.Goals as goal

pub loop-t-init : goal.loop-t-init
loop-t-init c = (refl, search rules, downward-none _ _ _)

pub loop-t-preserved : goal.loop-t-preserved
loop-t-preserved c =
    let before = c.loop-t.invariant in
    let row = c.clear_row.ensures in
    (row.1 ∙ before.0, search rules, downward-turn _ _ _ _ _ _ c.loop-t-test.true before.1 before.2 (rw before.0 at row.0))

pub returns : goal.returns
unfolding cleared_above
returns c =
    let before = c.loop-t.invariant in
    (downward-all _ _ _ _ _ c.loop-t-test.false before.2, before.0)
