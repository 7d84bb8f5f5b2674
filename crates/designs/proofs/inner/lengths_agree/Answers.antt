-- `lengths_agree` goes by the layout, and then by each test. Assumes nothing.
use mathlib.Core.Bool.{false≢true}
use mathlib.Core.Path.{sym, ◌∙◌}
use borrow.Author.Tests.{eq-eqb, ne_eqb}
use Rattle.doubles.specs.Num.{◌and◌}
use Rattle.designs.specs.Checks.{lengths}
use Rattle.designs.proofs.Laws.Layouts.{product_small}
use Rattle.designs.proofs.inner.lengths_agree.Goals as goal
use Rattle.designs.proofs.inner.lengths_agree.Goals.{then-x-p, else-x-p}

pub overflow_mul-x : goal.overflow_mul-x
overflow_mul-x c = record { fits = product_small _ _ c.requires.0 c.requires.1 }

pub returns-then-x-eq0 : goal.returns-then-x-eq0
unfolding lengths ◌and◌
returns-then-x-eq0 c = elim c.if-x-p.branch [
  | then-x-p w ↦ rw (c.in-Dense.is, eq-eqb _ _ w.if-x-p.true, ← w.value-is, c.if-x-eq0.true)
  | else-x-p w ↦ absurd (false≢true (sym (ne_eqb _ _ w.if-x-p.false) ∙ sym w.value-is ∙ c.if-x-eq0.true))
]

pub returns-else-x-eq0 : goal.returns-else-x-eq0
unfolding lengths ◌and◌
returns-else-x-eq0 c = elim c.if-x-p.branch [
  | then-x-p w ↦ rw (c.in-Dense.is, eq-eqb _ _ w.if-x-p.true, ← w.value-is, c.if-x-eq0.false)
  | else-x-p w ↦ w.value-is ∙ rw (c.in-Dense.is, ne_eqb _ _ w.if-x-p.false)
]

pub returns-then-x-p-2 : goal.returns-then-x-p-2
unfolding lengths ◌and◌
returns-then-x-p-2 c = rw (c.in-Csc.is, eq-eqb _ _ c.if-x-p-2.true)

pub returns-else-x-p-2 : goal.returns-else-x-p-2
unfolding lengths ◌and◌
returns-else-x-p-2 c = rw (c.in-Csc.is, ne_eqb _ _ c.if-x-p-2.false)
