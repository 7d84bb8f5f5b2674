-- The search upward: so far nothing was found. Assumes nothing.
use Rattle.std.proofs.Common.{ap, ◌+◌, not}
use borrow.Author.Rules.{rules}
use Rattle.designs.proofs.Laws.Search.{mark_on, mark_here}
use Rattle.doubles.specs.Num.{at, finite}
use Rattle.doubles.proofs.Laws.Steps.{steps-none, steps_all}
use Rattle.designs.specs.Checks.{not_finite}
use Rattle.designs.proofs.inner.first_not_finite.Goals as goal

pub loop-k-init : goal.loop-k-init
loop-k-init c = steps-none _ _

pub loop-k-preserved : goal.loop-k-preserved
loop-k-preserved c =
    mark_on (λ i. not (finite (at c.args.xs.now i))) (λ i. c.args.from + i) _ _ c.loop-k.invariant
    (ap not c.is_finite.ensures) (ap not c.if-not-is_finite.false)

pub returns-then-not-is_finite : goal.returns-then-not-is_finite
unfolding not_finite
returns-then-not-is_finite c =
    mark_here (λ i. not (finite (at c.args.xs.now i))) (λ i. c.args.from + i) _ _ c.loop-k.invariant
    (ap not c.is_finite.ensures) _ (ap not c.if-not-is_finite.true) c.loop-k-test.true

pub returns : goal.returns
unfolding not_finite
returns c = steps_all _ _ _ _ _ c.loop-k.invariant (search rules) (search rules)
