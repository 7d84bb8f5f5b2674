-- `larger` goes by the two tests of its definition.
use Rattle.std.proofs.Common.{sym, ◌∙◌}
use mathlib.Core.Bool.{true≢false}
use Rattle.doubles.specs.Num.{larger, ◌or◌}
use Rattle.doubles.proofs.larger.Goals as goal
use Rattle.doubles.proofs.larger.Goals.{then-x-y, else-x-y}

pub returns-then-is_nan : goal.returns-then-is_nan
unfolding larger ◌or◌
returns-then-is_nan c = elim c.if-x-y.branch [
  | then-x-y w ↦ rw w.if-x-y.true
  | else-x-y w ↦ rw (w.if-x-y.false, ← w.is_nan.ensures.value, ← w.value-is, c.if-is_nan.true)
]

pub returns-else-is_nan : goal.returns-else-is_nan
unfolding larger ◌or◌
returns-else-is_nan c = elim c.if-x-y.branch [
  | then-x-y w ↦ absurd (true≢false (sym w.if-x-y.true ∙ sym w.value-is ∙ c.if-is_nan.false))
  | else-x-y w ↦ rw (w.if-x-y.false, ← w.is_nan.ensures.value, ← w.value-is, c.if-is_nan.false)
]
