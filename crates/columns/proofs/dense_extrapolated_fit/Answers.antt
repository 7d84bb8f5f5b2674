-- `dense_extrapolated_fit`: the invariant is the samples done, and behind them what was there; a law says that rows give what columns give.
-- Assumes nothing.
use mathlib.Core.Path.{refl, sym, ◌∙◌}
use Rattle.doubles.proofs.Laws.Steps.{tab-none, tab-more, tab-all}
use Rattle.columns.proofs.Laws.ByRows.{by_rows}
use borrow.Author.Rules.{rules}
use Rattle.columns.proofs.dense_extrapolated_fit.Goals as goal

pub loop-i-init : goal.loop-i-init
loop-i-init c = tab-none _ _

pub loop-i-preserved : goal.loop-i-preserved
loop-i-preserved c = tab-more _ _ _ _ c.loop-i.invariant _ (search rules) c.row_fit.ensures

pub returns : goal.returns
returns c = tab-all _ _ _ _ c.loop-i.invariant _ refl (search rules) (search rules) ∙ sym (by_rows _ _ _ _ _)
