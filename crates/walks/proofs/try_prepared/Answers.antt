-- `try_prepared`: where all columns are usable, the fits on the tile's own numbers; else each is the preparation's 7. Assumes nothing.
use Rattle.definition.specs.Inner.Problem.{given_in}
use Rattle.walks.proofs.Laws.Fits.{fits-usable, none-prepared}
use Rattle.walks.proofs.try_prepared.Goals as goal

pub returns-then-not-is_usable : goal.returns-then-not-is_usable
returns-then-not-is_usable c =
    let P = c.args.problem.now in
    none-prepared (given_in P) P.settings c.args.alphas.now _ c.requires.3 _ c.is_usable.ensures c.if-not-is_usable.true c.args.most P.x.matrix.shape _ _ _ _

pub returns : goal.returns
returns c =
    let P = c.args.problem.now in
    rw (← fits-usable (given_in P) P.settings c.args.alphas.now _ c.requires.3 _ c.is_usable.ensures c.if-not-is_usable.false) c.first_usable.ensures
