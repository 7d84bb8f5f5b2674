-- `run`: the invariant is what the turns so far have led to; a turn that stops or breaks off leaves the loop, and the last turn ends it. Assumes nothing.
use borrow.Author.Rules.{rules}
use mathlib.Core.Path.{refl, ◌∙◌}
use native.Mathlib.Omega.{arith}
use Rattle.definition.proofs.Laws.Settings.{few-iterations}
use Rattle.visits.proofs.Laws.Violations.{broken_off}
use Rattle.epochs.proofs.Laws.Ready.{ready_still}
use Rattle.iterations.proofs.Laws.Turns.{totalled_most}
use Rattle.iterations.proofs.Laws.Reached.{turned_none, turned_more, turned-stopped, turned-bad, turned-last}
use Rattle.iterations.proofs.run.Goals as goal

pub loop-t-init : goal.loop-t-init
loop-t-init c = (refl, turned_none c.args.problem.now _ _ _ c.requires.2 c.requires.3 c.requires.4)

pub turn-requires : goal.turn-requires
turn-requires c =
    let P = c.args.problem.now in
    let turned = c.loop-t.invariant.1 in
    let inside = turned.inside in
    let few = few-iterations P.settings P.legal in
    let below = c.loop-t-test.true in (
      ready_still c.requires.0 _ _ _ turned.held.weights turned.held.fits turned.held.room,
      c.loop-t.invariant.0 ∙ c.requires.1,
      totalled_most _ _ _ (omega arith) turned.totalled,
    )

pub returns-in_err-now : goal.returns-in_err-now
returns-in_err-now c =
    let left = c.turn.new in
    rw (broken_off _ c.from_residual.ensures.1)
    (turned-bad c.args.problem.now c.loop-t.invariant.1 left.w left.fit left.scratch (search rules) _ c.in_err-now.ensures)

pub returns-in-Stopped : goal.returns-in-Stopped
returns-in-Stopped c =
    turned-stopped c.args.problem.now c.loop-t.invariant.1 _ _ _ (search rules) _ (rw c.in-Stopped.is at c.in_ok-now.ensures)

pub loop-t-preserved : goal.loop-t-preserved
loop-t-preserved c =
    let kept = c.turn.auto in
    let left = rw c.in-Going.is at c.in_ok-now.ensures in (
      kept.indices ∙ c.loop-t.invariant.0,
      turned_more c.args.problem.now c.loop-t.invariant.1 _ _ _ (search rules) _ left kept.w kept.fit kept.scratch,
    )

pub last_turn-requires : goal.last_turn-requires
last_turn-requires c =
    let held = c.loop-t.invariant.1.held in
    ready_still c.requires.0 _ _ _ held.weights held.fits held.room

pub returns : goal.returns
returns c = turned-last c.args.problem.now c.loop-t.invariant.1 _ c.last_turn.new.scratch (search rules) c.last_turn.ensures
