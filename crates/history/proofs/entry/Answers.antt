-- `entry`: the invariant is the sum over the places passed. Assumes nothing.
use Rattle.doubles.proofs.Laws.Steps.{steps-none, steps-turn}
use borrow.Author.Rules.{rules}
use Rattle.definition.specs.Extrapolation.{entry}
use Rattle.history.proofs.entry.Goals as goal

pub loop-place-init : goal.loop-place-init
loop-place-init c = steps-none _ _

pub loop-place-preserved : goal.loop-place-preserved
loop-place-preserved c = steps-turn _ _ _ _ _ c.loop-place.invariant (rw (c.difference.ensures, c.difference-in-loop-place.ensures))

pub returns : goal.returns
unfolding entry
returns c = search rules
