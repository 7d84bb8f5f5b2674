-- `run_epochs`: the invariant is what the epochs so far have led to; an epoch that stops or breaks off leaves the loop. Assumes nothing.
use borrow.Author.Rules.{rules}
use native.Mathlib.Omega.{arith}
use Rattle.definition.proofs.Laws.Settings.{few-epochs}
use Rattle.visits.proofs.Laws.Violations.{broken_off}
use Rattle.epochs.proofs.Laws.Ready.{ready_still}
use Rattle.epochs.proofs.Laws.Reached.{reached-none, reached-more, reached-stopped, reached-bad, reached-all}
use Rattle.epochs.proofs.run_epochs.Goals as goal

pub loop-e-init : goal.loop-e-init
loop-e-init c = reached-none _ _ _ _ _ _ _

pub run_epoch-requires : goal.run_epoch-requires
run_epoch-requires c =
    let P = c.args.problem.now in
    let reached = c.loop-e.invariant in
    let few = few-epochs P.settings P.legal in
    let inside = reached.inside in
    let epochs-then = reached.epochs in
    let extrapolations-then = reached.extrapolations in
    let epochs-first = c.requires.2.epochs in
    let extrapolations-first = c.requires.2.extrapolations in (
      ready_still c.requires.0 _ _ _ reached.held.weights reached.held.fits reached.held.room,
      c.requires.1,
      record { epochs = omega arith; extrapolations = omega arith },
    )

pub returns-in_err-now : goal.returns-in_err-now
returns-in_err-now c =
    let left = c.run_epoch.new in
    rw (broken_off _ c.from_residual.ensures.1)
    (reached-bad _ _ _ c.loop-e.invariant left.w left.fit left.scratch (search rules) _ c.in_err-now.ensures)

pub returns-in-Stopped : goal.returns-in-Stopped
returns-in-Stopped c = reached-stopped _ _ _ c.loop-e.invariant _ _ _ (search rules) _ (rw c.in-Stopped.is at c.in_ok-now.ensures)

pub loop-e-preserved : goal.loop-e-preserved
loop-e-preserved c =
    let kept = c.run_epoch.auto in
    reached-more _ _ _ c.loop-e.invariant _ _ _ (search rules) _ (rw c.in-Going.is at c.in_ok-now.ensures) kept.w kept.fit kept.scratch

pub returns : goal.returns
returns c = reached-all _ _ _ c.loop-e.invariant (search rules)
