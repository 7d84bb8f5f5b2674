-- `solve`: the tests, and where they find nothing, the run on a problem that passed them. Assumes nothing.
use mathlib.Core.Path.{sym, ap, ◌∙◌}
use Prim.Native.Nat.{◌≤◌}
use lib.Seq.{length-take-le}
use Rattle.doubles.proofs.Laws.Verdict.{handed_on}
use Rattle.designs.specs.Given.{Given, handed}
use Rattle.definition.specs.Call.{Lent, lent}
use Rattle.definition.proofs.Laws.Passed.{passed}
use Rattle.solvers.proofs.Laws.Calls.{rooms, left-refused, tests_passed, left-run}
use native.Mathlib.Omega.{arith}
use borrow.Author.Tests.{eqb-true}
use Rattle.solvers.proofs.solve.Goals as goal
use Rattle.solvers.proofs.solve.Goals.{Start}

abbrev given : Start → Given
given c = handed c.args.x.now c.args.y.now

abbrev buffers : Start → Lent
buffers c = let a = c.args in lent a.w.now a.fit.now a.indices.now a.scratch.now

pub returns-in_err-tested : goal.returns-in_err-tested
returns-in_err-tested c =
    let start = (goal.at.returns-in_err-tested c).Start in
    rw (handed_on _ c.from_residual.ensures.1) (left-refused (given start) c.args.settings _ (buffers start) _ _ c.in_err-tested.ensures.fault)

pub overflow_add-problem : goal.overflow_add-problem
overflow_add-problem c =
    let start = (goal.at.overflow_add-problem c).Start in
    let h = tests_passed (given start) c.args.settings _ (buffers start) c.in_ok-tested.ensures.fault in
    let p : c.in_ok-tested.tested.matrix.shape.p ≤ 8192 = rw c.in_ok-tested.ensures.design (passed _ _ _ _ h).1.sized.narrow in
    omega (arith, p)

pub slice_bounds-problem-end : goal.slice_bounds-problem-end
slice_bounds-problem-end c =
    let start = (goal.at.slice_bounds-problem-end c).Start in
    let h = tests_passed (given start) c.args.settings _ (buffers start) c.in_ok-tested.ensures.fault in
    let r = rooms (given start) c.args.settings _ (buffers start) h in
    sym (length-take-le _ _ (rw c.in_ok-tested.ensures.design r.prepared))

pub invariant_of-problem : goal.invariant_of-problem
invariant_of-problem c =
    let start = (goal.at.invariant_of-problem c).Start in
    let h = tests_passed (given start) c.args.settings _ (buffers start) c.in_ok-tested.ensures.fault in
    let admitted = passed (given start) c.args.settings _ (buffers start) h in
    let r = rooms (given start) c.args.settings _ (buffers start) h in
    record {
      few = rw c.in_ok-tested.ensures.design admitted.1.sized.few;
      narrow = rw c.in_ok-tested.ensures.design admitted.1.sized.narrow;
      targets = eqb-true _ _ admitted.1.fit ∙ ap (λ m. m.shape.n) (sym c.in_ok-tested.ensures.design);
      numbers = length-take-le _ _ (rw c.in_ok-tested.ensures.design r.prepared);
      legal = admitted.0;
    }

pub solve_tested-requires : goal.solve_tested-requires
solve_tested-requires c =
    let start = (goal.at.solve_tested-requires c).Start in
    let h = tests_passed (given start) c.args.settings _ (buffers start) c.in_ok-tested.ensures.fault in
    let r = rooms (given start) c.args.settings _ (buffers start) h in
    rw c.in_ok-tested.ensures.design (r.weights, r.fit, r.indices, r.scratch)

pub returns : goal.returns
returns c =
    let start = (goal.at.returns c).Start in
    let run = left-run (given start) c.args.settings _ (buffers start) c.in_ok-tested.ensures.fault in
    run _ _ (rw (← c.in_ok-tested.ensures.design) c.solve_tested.ensures)
