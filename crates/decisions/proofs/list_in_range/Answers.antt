-- `list_in_range`: the two bounds, then the invariant is that the alphas passed are good. Assumes nothing.
use mathlib.Core.Path.{◌≡◌, sym, ◌∙◌}
use lib.ListN.{length}
use borrow.Author.Tests.{le-leb, lt-leb}
use Rattle.doubles.specs.Num.{◌and◌}
use Rattle.doubles.specs.Steps.{all}
use Rattle.doubles.proofs.Laws.Steps.{steps-none, steps_all, all_more, all_broken}
use Rattle.definition.specs.Walk.{good_at, list_legal}
use Rattle.decisions.proofs.list_in_range.Goals as goal
use Rattle.decisions.proofs.list_in_range.Goals.{At-loop-k, then-alphas-lt1-via-then-alphas-lt1, then-alphas-lt1-via-else-alphas-lt1+then-alphas-gt64}

-- behind the two bounds, the alphas decide
bounded : (c : At-loop-k) → let alphas = c.args.alphas.now in
    list_legal alphas ≡ all (good_at alphas) (length alphas)
unfolding list_legal ◌and◌
bounded c = rw (le-leb _ _ c.if-alphas-lt1.false, le-leb _ _ c.if-alphas-gt64.false)

pub returns-then-alphas-lt1 : goal.returns-then-alphas-lt1
unfolding list_legal ◌and◌
returns-then-alphas-lt1 c = elim c.then-alphas-lt1.branch [
  | then-alphas-lt1-via-then-alphas-lt1 w ↦ rw (lt-leb _ _ w.if-alphas-lt1.true)
  | then-alphas-lt1-via-else-alphas-lt1+then-alphas-gt64 w ↦ rw (le-leb _ _ w.if-alphas-lt1.false, lt-leb _ _ w.if-alphas-gt64.true)
]

pub loop-k-init : goal.loop-k-init
loop-k-init c = steps-none _ _

pub returns-then-not-is_good_at : goal.returns-then-not-is_good_at
returns-then-not-is_good_at c =
    let broken = all_broken _ _ _ c.loop-k.invariant (sym c.is_good_at.ensures ∙ c.if-not-is_good_at.true) c.loop-k-test.true in
    broken ∙ sym (bounded (goal.at.returns-then-not-is_good_at c).At-loop-k)

pub loop-k-preserved : goal.loop-k-preserved
loop-k-preserved c = all_more _ _ c.loop-k.invariant (sym c.is_good_at.ensures ∙ c.if-not-is_good_at.false)

pub returns : goal.returns
returns c =
    steps_all _ _ _ _ _ c.loop-k.invariant c.loop-k.auto.k-end c.loop-k-test.false ∙ sym (bounded (goal.at.returns c).At-loop-k)
