-- `solve_lin_sys`: the size, then both passes, the test and the reading. Assumes nothing.
use borrow.Author.Tests.{lt-ltb, le-ltb}
use Rattle.doubles.specs.Num.{◌or◌}
use Rattle.elimination.specs.Elimination.{solution, solve_call}
use Rattle.elimination.proofs.helpers.solve_lin_sys.Goals as goal
use Rattle.elimination.proofs.helpers.solve_lin_sys.Goals.{then-size-lt1-via-then-size-lt1, then-size-lt1-via-else-size-lt1+then-size-gt10}

pub returns-then-size-lt1 : goal.returns-then-size-lt1
unfolding solve_call ◌or◌
returns-then-size-lt1 c = rw (c.over_zeros.ensures.0, c.over_zeros.ensures.1, c.at.ensures) (elim c.then-size-lt1.branch [
  | then-size-lt1-via-then-size-lt1 w ↦ rw (lt-ltb _ _ w.if-size-lt1.true)
  | then-size-lt1-via-else-size-lt1+then-size-gt10 w ↦ rw (le-ltb _ _ w.if-size-lt1.false, lt-ltb _ _ w.if-size-gt10.true)
])

pub returns-then-not-is_regular : goal.returns-then-not-is_regular
unfolding solve_call solution ◌or◌
returns-then-not-is_regular c =
    let regular = rw (c.eliminate.ensures.1, c.eliminate.ensures.0) at c.is_regular.ensures in
    let zeros = c.over_zeros-then-not-is_regular.ensures in
    rw (zeros.0, zeros.1, le-ltb _ _ c.if-size-lt1.false, le-ltb _ _ c.if-size-gt10.false, ← regular, c.if-not-is_regular.true)

pub returns : goal.returns
unfolding solve_call solution ◌or◌
returns c =
    let regular = rw (c.eliminate.ensures.1, c.eliminate.ensures.0) at c.is_regular.ensures in
    let read = rw (c.eliminate.ensures.1, c.eliminate.ensures.0) at c.solution.ensures in
    rw (le-ltb _ _ c.if-size-lt1.false, le-ltb _ _ c.if-size-gt10.false, ← regular, c.if-not-is_regular.false, read)
