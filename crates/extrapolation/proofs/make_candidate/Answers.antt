-- `make_candidate`: the weights are put by, what is kept is read beside them, and the fit is put behind them. Assumes nothing.
use borrow.Author.Rules.{rules}
use Rattle.doubles.proofs.Laws.Parts.{part_long}
use Rattle.extrapolation.proofs.Laws.Scratch.{kept-long}
use Rattle.extrapolation.proofs.Laws.Step.{made}
use Rattle.extrapolation.proofs.make_candidate.Goals as goal

pub write_candidate-requires : goal.write_candidate-requires
write_candidate-requires c =
    let sized = c.requires in
    let P = c.args.step.now in
    let long = c.lay_out-at.ensures.1 in
    (sized.below, search rules, sized.few, c.args.step.now.shallow, kept-long P.x.matrix.shape P.depth _ _ _ long (search rules))

pub extrapolated_fit-requires : goal.extrapolated_fit-requires
extrapolated_fit-requires c = (c.requires.below, search rules, part_long _ _ _ _ c.lay_out-at.ensures.4 (search rules))

pub returns : goal.returns
returns c =
    made c.args.step.now _ _ _ _ _ _ _ _ _ _ _ _
    c.requires
    c.lay_out-at.ensures
    c.copy.ensures
    c.write_candidate.ensures
    c.extrapolated_fit.ensures
    c.extrapolated_fit.auto.fit
