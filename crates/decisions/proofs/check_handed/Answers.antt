-- `check_handed`: the search upward, so far nothing was found. Assumes nothing.
use mathlib.Core.Path.{ap}
use mathlib.Core.Bool.{not}
use Rattle.doubles.specs.Answer.{none}
use Rattle.doubles.proofs.Laws.Steps.{steps-none, steps_all}
use Rattle.designs.specs.Checks.{told}
use Rattle.designs.proofs.Laws.Search.{mark_on, mark_here}
use Rattle.definition.specs.Call.{acceptable_at, handed_fault}
use Rattle.decisions.proofs.check_handed.Goals as goal

pub loop-j-init : goal.loop-j-init
loop-j-init c = steps-none _ _

pub returns-then-not-is_acceptable : goal.returns-then-not-is_acceptable
unfolding handed_fault
returns-then-not-is_acceptable c =
    let a = c.args in
    let b = ap not c.is_acceptable.ensures in
    rw c.at.ensures
    (ap (λ f. told 10 f none)
    (mark_here (λ k. not (acceptable_at a.p a.prepared.now k)) (λ k. k) _ _ c.loop-j.invariant b _ (ap not c.if-not-is_acceptable.true)
    c.loop-j-test.true))

pub loop-j-preserved : goal.loop-j-preserved
loop-j-preserved c =
    let a = c.args in
    let b = ap not c.is_acceptable.ensures in
    mark_on (λ k. not (acceptable_at a.p a.prepared.now k)) (λ k. k) _ _ c.loop-j.invariant b (ap not c.if-not-is_acceptable.false)

pub returns : goal.returns
unfolding handed_fault
returns c = ap (λ f. told 10 f none) (steps_all _ _ _ _ _ c.loop-j.invariant c.loop-j.auto.j-end c.loop-j-test.false)
