-- `try_candidate`: the candidate and its fit are made, and the choice reads both points. Assumes nothing.
use Rattle.extrapolation.proofs.Laws.Step.{choose_asks, chosen_all}
use Rattle.extrapolation.proofs.try_candidate.Goals as goal

pub coefficients-c-requires : goal.coefficients-c-requires
coefficients-c-requires c = c.args.step.now.shallow

pub choose-requires : goal.choose-requires
choose-requires c =
    let left = c.make_candidate.new in
    let kept = c.make_candidate.auto in
    choose_asks c.args.step.now _ _ _ _ left.w left.scratch _ _ _ _ _ c.requires c.lay_out-at.ensures kept.w kept.scratch

pub returns : goal.returns
returns c =
    chosen_all c.args.step.now _ _ _ _ _ _ _ _ _ _ _ _ _ _ _
    c.requires
    c.lay_out-at.ensures
    c.make_candidate.ensures
    c.objective-before.ensures
    c.coefficients-c.ensures
    c.choose.ensures
