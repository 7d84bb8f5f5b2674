-- `write_candidate`: the invariant is the definition's loop over the working set's places passed. Assumes nothing.
use borrow.Author.Rules.{rules}
use Rattle.doubles.proofs.Laws.Steps.{steps-none, steps-turn}
use Rattle.extrapolation.proofs.Laws.Tries.{candidate-done}
use Rattle.extrapolation.proofs.write_candidate.Goals as goal

pub loop-i-init : goal.loop-i-init
loop-i-init c = steps-none _ _

pub loop-i-preserved : goal.loop-i-preserved
loop-i-preserved c = steps-turn _ _ _ _ _ c.loop-i.invariant (rw c.combined.ensures at c.set_weight.ensures)

pub returns : goal.returns
returns c =
    candidate-done _ _ _ _ _ _ _ _ _ c.clear.ensures c.requires.1 c.loop-i.invariant (search rules) (search rules)
