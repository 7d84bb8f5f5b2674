-- `copy`: the invariant is what is copied so far, and behind it what was there; a table of a list's own places is the list. Assumes nothing.
use mathlib.Core.Path.{refl, ◌∙◌}
use Rattle.doubles.proofs.Laws.Steps.{tab-none, tab-more, tab-all}
use Rattle.doubles.proofs.Laws.Parts.{tab_own}
use borrow.Author.Rules.{rules}
use Rattle.extrapolation.proofs.copy.Goals as goal

pub loop-i-init : goal.loop-i-init
loop-i-init c = tab-none _ _

pub loop-i-preserved : goal.loop-i-preserved
loop-i-preserved c = tab-more _ _ _ _ c.loop-i.invariant _ (search rules) refl

pub returns : goal.returns
returns c = tab-all _ _ _ _ c.loop-i.invariant _ c.requires (search rules) (search rules) ∙ tab_own _
