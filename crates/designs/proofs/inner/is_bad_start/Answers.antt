-- The three faults of a start in their turn. Assumes nothing.
use native.Mathlib.Omega.{arith}
use borrow.Author.Tests.{lt-ltb, le-ltb, eq-eqb, ne_eqb}
use Rattle.doubles.specs.Num.{◌and◌, ◌or◌}
use Rattle.designs.specs.Checks.{bad_start}
use Rattle.designs.proofs.inner.is_bad_start.Goals as goal

pub returns-then-is_fall : goal.returns-then-is_fall
unfolding bad_start ◌and◌ ◌or◌
returns-then-is_fall c = rw (← c.is_fall.ensures, c.if-is_fall.true)

pub overflow_cast-s : goal.overflow_cast-s
overflow_cast-s c = omega (arith, c.shared_slice_known-2-1.given c.args.i)

pub returns-then-m-s : goal.returns-then-m-s
unfolding bad_start ◌and◌ ◌or◌
returns-then-m-s c = rw (← c.is_fall.ensures, c.if-is_fall.false, lt-ltb _ _ c.if-m-s.true)

pub returns-then-i-starts : goal.returns-then-i-starts
unfolding bad_start ◌and◌ ◌or◌
returns-then-i-starts c =
    rw (
      ← c.is_fall.ensures,
      c.if-is_fall.false,
      le-ltb _ _ c.if-m-s.false,
      eq-eqb _ _ c.if-i-starts.true,
    )

pub returns : goal.returns
unfolding bad_start ◌and◌ ◌or◌
returns c =
    rw (
      ← c.is_fall.ensures,
      c.if-is_fall.false,
      le-ltb _ _ c.if-m-s.false,
      ne_eqb _ _ c.if-i-starts.false,
    )
