-- `to_echelon_form`: the invariant is the definition's loop up to pivot i. Assumes nothing.
use mathlib.Core.Path.{refl, ◌∙◌}
use borrow.Author.Rules.{rules}
use Rattle.doubles.proofs.Laws.Steps.{steps-none, steps-turn, steps_all}
use Rattle.elimination.specs.Elimination.{echelon}
use Rattle.elimination.proofs.inner.System.to_echelon_form.Goals as goal

pub loop-i-init : goal.loop-i-init
loop-i-init c = (refl, steps-none _ _)

pub loop-i-preserved : goal.loop-i-preserved
loop-i-preserved c =
    let before = c.loop-i.invariant in
    let turn = c.clear_below.ensures in
    (turn.1 ∙ before.0, steps-turn _ _ _ _ _ before.1 (rw before.0 at turn.0))

pub returns : goal.returns
unfolding echelon
returns c =
    let before = c.loop-i.invariant in
    (steps_all _ _ _ _ _ before.1 (search rules) (search rules), before.0)
