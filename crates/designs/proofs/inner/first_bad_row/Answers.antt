-- The search upward over the columns: so far nothing was found. Assumes nothing.
use borrow.Author.Rules.{rules}
use Rattle.designs.proofs.Laws.Search.{first_on, first_here}
use Rattle.designs.specs.Checks.{bad_rows}
use Rattle.doubles.proofs.Laws.Steps.{steps-none, steps_all}
use Rattle.designs.proofs.inner.first_bad_row.Goals as goal

pub loop-j-init : goal.loop-j-init
loop-j-init c = steps-none _ _

pub first_bad_in-requires : goal.first_bad_in-requires
first_bad_in-requires c = (
  search rules,
  c.requires.1.up _ c.loop-j-test.true,
  c.requires.1.within _ (search rules),
)

pub returns-in-Some : goal.returns-in-Some
unfolding bad_rows
returns-in-Some c = first_here _ _ _ _ _ c.loop-j.invariant c.first_bad_in.ensures c.in-Some.is c.loop-j-test.true

pub loop-j-preserved : goal.loop-j-preserved
loop-j-preserved c = first_on _ _ _ c.loop-j.invariant c.first_bad_in.ensures c.in_default.is

pub returns : goal.returns
unfolding bad_rows
returns c = steps_all _ _ _ _ _ c.loop-j.invariant (search rules) (search rules)
