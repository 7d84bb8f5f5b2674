-- The two faults of a row in their turn. Assumes nothing.
use native.Mathlib.Omega.{arith}
use Prim.Native.Nat.{◌+◌, ◌-◌}
use borrow.Author.Tests.{lt-leb, le-leb, lt-ltb, le-ltb}
use Rattle.doubles.specs.Num.{◌and◌, ◌or◌}
use Rattle.designs.specs.Checks.{bad_row}
use Rattle.designs.proofs.inner.is_bad_row.Goals as goal

pub overflow_cast-i : goal.overflow_cast-i
overflow_cast-i c = omega (arith, c.shared_slice_known-1.given (c.args.a + c.args.k))

pub returns-then-n-i : goal.returns-then-n-i
unfolding bad_row ◌and◌ ◌or◌
returns-then-n-i c = rw (le-leb _ _ c.if-n-i.true)

pub overflow_cast-result : goal.overflow_cast-result
overflow_cast-result c =
    omega (arith, c.shared_slice_known-then-k-gt0-1.given (c.args.a + c.args.k - 1))

pub returns-then-k-gt0 : goal.returns-then-k-gt0
unfolding bad_row ◌and◌ ◌or◌
returns-then-k-gt0 c = rw (lt-leb _ _ c.if-n-i.false, lt-ltb _ _ c.if-k-gt0.true)

pub returns : goal.returns
unfolding bad_row ◌and◌ ◌or◌
returns c = rw (lt-leb _ _ c.if-n-i.false, le-ltb _ _ c.if-k-gt0.false)
