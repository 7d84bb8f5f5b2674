-- `is_better`: one test after the other. Assumes nothing.
use mathlib.Core.Path.{sym, ◌∙◌}
use mathlib.Core.Bool.{true≢false}
use Rattle.doubles.specs.Num.{◌and◌}
use Rattle.definition.specs.Extrapolation.{all_finite}
use Rattle.extrapolation.proofs.is_better.Goals as goal
use Rattle.extrapolation.proofs.is_better.Goals.{then-objective-before, else-objective-before}

pub returns-then-all_finite : goal.returns-then-all_finite
unfolding ◌and◌ all_finite
returns-then-all_finite c = elim c.if-objective-before.branch [
  | then-objective-before w ↦
      let e = w.all_finite.ensures in
      rw (← c.objective.ensures, w.if-objective-before.true, ← e, ← w.value-is, c.if-all_finite.true) c.all_finite-then-all_finite.ensures
  | else-objective-before w ↦ absurd (true≢false (sym c.if-all_finite.true ∙ w.value-is ∙ w.if-objective-before.false))
]

pub returns-else-all_finite : goal.returns-else-all_finite
unfolding ◌and◌ all_finite
returns-else-all_finite c = elim c.if-objective-before.branch [
  | then-objective-before w ↦
      let e = w.all_finite.ensures in
      rw (← c.objective.ensures, w.if-objective-before.true, ← e, ← w.value-is, c.if-all_finite.false)
  | else-objective-before w ↦ rw (w.value-is, ← c.objective.ensures, w.if-objective-before.false)
]
