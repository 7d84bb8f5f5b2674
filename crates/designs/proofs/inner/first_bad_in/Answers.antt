-- The search upward in one column: so far nothing was found. Assumes nothing.
use Rattle.std.proofs.Common.{◌+◌, get_or}
use borrow.Author.Rules.{rules}
use Rattle.designs.proofs.Laws.Search.{mark_on, mark_here}
use Rattle.doubles.proofs.Laws.Steps.{steps-none, steps_all}
use Rattle.designs.specs.Checks.{bad_row, bad_column}
use Rattle.designs.proofs.inner.first_bad_in.Goals as goal

pub loop-k-init : goal.loop-k-init
loop-k-init c = steps-none _ _

pub returns-then-is_bad_row : goal.returns-then-is_bad_row
unfolding bad_column
returns-then-is_bad_row c =
    let start = get_or c.args.x.now.starts.now c.args.j 0 in
    mark_here (bad_row c.args.x.now.shape.n c.args.x.now.rows.now start) (λ i. start + i) _ _ c.loop-k.invariant
    c.is_bad_row.ensures _ c.if-is_bad_row.true c.loop-k-test.true

pub loop-k-preserved : goal.loop-k-preserved
loop-k-preserved c =
    let start = get_or c.args.x.now.starts.now c.args.j 0 in
    mark_on (bad_row c.args.x.now.shape.n c.args.x.now.rows.now start) (λ i. start + i) _ _ c.loop-k.invariant
    c.is_bad_row.ensures c.if-is_bad_row.false

pub returns : goal.returns
unfolding bad_column
returns c = steps_all _ _ _ _ _ c.loop-k.invariant (search rules) (search rules)
