-- `dense_squares`: the invariant is the running sums over the rows passed. Assumes nothing.
use Prim.Native.Nat.{ℕ, ◌+◌, ◌*◌}
use lib.Ieee.{Float}
use Rattle.doubles.specs.Num.{◌⊗◌, at}
use Rattle.designs.specs.Design.{squares, dense}
use Rattle.passes.proofs.Laws.Rows.{sums_none, sums_turn, sums_all}
use borrow.Author.Rules.{rules}
use Rattle.passes.proofs.dense_squares.Goals as goal
use Rattle.passes.proofs.dense_squares.Goals.{Start}

-- what row k adds to sum j, in rows of q places
abbrev added : Start → ℕ → ℕ → ℕ → Float
added c q k j = at c.args.values.now (k * q + j) ⊗ at c.args.values.now (k * q + j)

pub loop-i-init : goal.loop-i-init
loop-i-init c = sums_none _ _ _ _ c.clear.ensures (search rules)

pub loop-i-preserved : goal.loop-i-preserved
loop-i-preserved c =
    sums_turn (added (goal.at.loop-i-preserved c).Start) _ _ _ _ c.loop-i.invariant (search rules) c.add_squares.ensures

pub returns : goal.returns
unfolding squares dense
returns c = sums_all (added (goal.at.returns c).Start) _ _ _ _ _ c.loop-i.invariant (search rules) c.loop-i.auto.i-end c.loop-i-test.false
