-- `extrapolate`: the system is eliminated; where it is singular nothing is tried, else the candidate of its solution. Assumes nothing.
use borrow.Author.Rules.{rules}
use mathlib.Core.Path.{◌≡◌, refl}
use Prim.Native.Nat.{◌-◌}
use mathlib.Core.List.{List}
use lib.Ieee.{Float}
use lib.ListN.{take, drop}
use Rattle.extrapolation.specs.Inner.Places.{task_with}
use Rattle.extrapolation.specs.Inner.Places.{kept_in}
use Rattle.extrapolation.proofs.Laws.Scratch.{kept_read, kept-long}
use Rattle.extrapolation.proofs.Laws.Tries.{from-regular, from_singular}
use Rattle.extrapolation.proofs.extrapolate.Goals as goal
use Rattle.extrapolation.proofs.extrapolate.Goals.{After-lay_out-at}

kept : (c : After-lay_out-at) → let P = c.args.step.now in
    take (c.lay_out-at.result.until - c.lay_out-at.result.kept) (drop c.lay_out-at.result.kept c.args.scratch.now)
    ≡ kept_in P.x.matrix.shape P.depth c.args.scratch.now
kept c = let P = c.args.step.now in kept_read P.x.matrix.shape P.depth _ _ _ c.lay_out-at.ensures.0 c.lay_out-at.ensures.1

pub system-requires : goal.system-requires
system-requires c =
    let P = c.args.step.now in
    (c.args.step.now.shallow, search rules, kept-long P.x.matrix.shape P.depth _ _ _ c.lay_out-at.ensures.1 (search rules))

pub invariant_of-m : goal.invariant_of-m
invariant_of-m c = record { small = c.args.step.now.shallow }

pub eliminate-requires : goal.eliminate-requires
eliminate-requires c = c.args.step.now.deep

pub returns-then-not-is_regular : goal.returns-then-not-is_regular
returns-then-not-is_regular c =
    let rows = kept (goal.at.returns-then-not-is_regular c).After-lay_out-at in
    let regular = rw c.eliminate.ensures.1 at c.is_regular.ensures in
    (λ q. from_singular (task_with c.args.step.now q) _ _ _ _ _ _ _ _ _ rows c.system.ensures c.eliminate.ensures.0 regular c.if-not-is_regular.true, refl)

pub returns : goal.returns
returns c =
    let rows = kept (goal.at.returns c).After-lay_out-at in
    let regular = rw c.eliminate.ensures.1 at c.is_regular.ensures in
    let read = rw c.eliminate.ensures.1 at c.solution.ensures in
    let off = c.if-not-is_regular.false in
    let by = λ (q : List Float).
    from-regular (task_with c.args.step.now q) _ _ _ _ _ _ _ _ _ rows c.system.ensures c.eliminate.ensures.0 regular off _ read _ in
    (λ q. by q (c.try_candidate.ensures.0 q), c.try_candidate.ensures.1)
