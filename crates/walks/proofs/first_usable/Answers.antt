-- `first_usable`: the invariant is that none was usable so far. Assumes nothing.
use mathlib.Core.Path.{sym, ap, ◌∙◌}
use native.Mathlib.Omega.{arith}
use Rattle.definition.specs.Inner.Problem.{given_in}
use Rattle.definition.specs.Call.{scratch_room}
use Rattle.walks.specs.Inner.Fits.{usable_of}
use Rattle.walks.proofs.Laws.Fits.{tried_alpha, legal-each, room-each, none_yet, still_none, found, found_none}
use Rattle.walks.proofs.first_usable.Goals as goal

pub loop-k-init : goal.loop-k-init
loop-k-init c = none_yet _ _ _

pub invariant_of-with_alpha : goal.invariant_of-with_alpha
invariant_of-with_alpha c =
    let P = c.args.problem.now in
    record {
      few = P.few;
      narrow = P.narrow;
      targets = P.targets;
      numbers = P.numbers;
      legal = rw c.at_alpha.ensures (legal-each P.settings P.legal _ c.requires.2 _ (omega (arith, c.loop-k-test.true)));
    }

pub try_fit-requires : goal.try_fit-requires
try_fit-requires c =
    let s = c.args.problem.now.x.matrix.shape in
    let kept = c.loop-k.auto in (
      record {
        weights = kept.w ∙ c.requires.0.weights;
        fits = kept.fit ∙ c.requires.0.fits;
        room = kept.scratch ∙ c.requires.0.room ∙ sym (ap (scratch_room s) c.at_alpha.ensures ∙ room-each s c.args.problem.now.settings _);
      },
      kept.indices ∙ c.requires.1,
    )

pub returns-in-Some : goal.returns-in-Some
returns-in-Some c =
    let P = c.args.problem.now in
    let tries = tried_alpha (given_in P) P.settings P.prepared.now _ c.args.most _ _ c.at_alpha.ensures _ _ _ _ _ c.try_fit.ensures in
    let said-so = sym (ap usable_of c.in-Some.is) ∙ tries.0 in
    found P.settings c.args.most _ _ _ c.loop-k.invariant c.loop-k-test.true _ said-so P.x.matrix.shape tries.1

pub loop-k-preserved : goal.loop-k-preserved
loop-k-preserved c =
    let P = c.args.problem.now in
    let tries = tried_alpha (given_in P) P.settings P.prepared.now _ c.args.most _ _ c.at_alpha.ensures _ _ _ _ _ c.try_fit.ensures in
    still_none P.settings c.args.most _ _ c.loop-k.invariant _ c.in_default.is tries.0

pub returns : goal.returns
returns c =
    let P = c.args.problem.now in
    let end = c.loop-k.auto.k-end in
    found_none P.settings c.args.most _ _ _ c.loop-k.invariant end c.loop-k-test.false P.x.matrix.shape _ _ _ _
