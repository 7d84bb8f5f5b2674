-- `is_usable_at`: the tests in their turn. Assumes nothing.
use mathlib.Core.Path.{sym, ◌∙◌}
use mathlib.Core.Bool.{true≢false}
use Rattle.doubles.specs.Num.{◌and◌, ◌or◌}
use Rattle.definition.specs.Preparation.{usable}
use Rattle.decisions.proofs.is_usable_at.Goals as goal
use Rattle.decisions.proofs.is_usable_at.Goals.{then-is_finite+then-constant, then-is_finite+else-constant, else-is_finite}

pub returns-then-is_finite-2 : goal.returns-then-is_finite-2
unfolding usable ◌and◌ ◌or◌
returns-then-is_finite-2 c = elim c.if-is_finite.branch [
  | then-is_finite+then-constant w ↦ rw (← c.is_finite.ensures, w.if-is_finite.true, w.if-constant.true) c.is_finite-then-is_finite-2.ensures
  | then-is_finite+else-constant w ↦
      let e = w.is_finite-else-constant.ensures in
      rw (← c.is_finite.ensures, w.if-is_finite.true, w.if-constant.false, ← e, ← w.value-is, c.if-is_finite-2.true) c.is_finite-then-is_finite-2.ensures
  | else-is_finite w ↦ absurd (true≢false (sym c.if-is_finite-2.true ∙ w.value-is ∙ w.if-is_finite.false))
]

pub returns-else-is_finite-2 : goal.returns-else-is_finite-2
unfolding usable ◌and◌ ◌or◌
returns-else-is_finite-2 c = elim c.if-is_finite.branch [
  | then-is_finite+then-constant w ↦ absurd (true≢false (sym w.if-constant.true ∙ sym w.value-is ∙ c.if-is_finite-2.false))
  | then-is_finite+else-constant w ↦
      let e = w.is_finite-else-constant.ensures in
      rw (← c.is_finite.ensures, w.if-is_finite.true, w.if-constant.false, ← e, ← w.value-is, c.if-is_finite-2.false)
  | else-is_finite w ↦ rw (w.value-is, ← c.is_finite.ensures, w.if-is_finite.false)
]
