-- The search upward: so far nothing was found. Assumes nothing.
use borrow.Author.Rules.{rules}
use Rattle.designs.proofs.Laws.Search.{mark_on, mark_here}
use Rattle.doubles.proofs.Laws.Steps.{steps-none, steps_all}
use Rattle.designs.specs.Checks.{bad_start, bad_starts}
use Rattle.designs.proofs.inner.first_bad_start.Goals as goal

pub loop-i-init : goal.loop-i-init
loop-i-init c = steps-none _ _

pub returns-then-is_bad_start : goal.returns-then-is_bad_start
unfolding bad_starts
returns-then-is_bad_start c =
    mark_here (bad_start c.args.starts.now c.args.m) (λ i. i) _ _ c.loop-i.invariant
    c.is_bad_start.ensures _ c.if-is_bad_start.true c.loop-i-test.true

pub loop-i-preserved : goal.loop-i-preserved
loop-i-preserved c =
    mark_on (bad_start c.args.starts.now c.args.m) (λ i. i) _ _ c.loop-i.invariant c.is_bad_start.ensures c.if-is_bad_start.false

pub returns : goal.returns
unfolding bad_starts
returns c = steps_all _ _ _ _ _ c.loop-i.invariant (search rules) (search rules)
