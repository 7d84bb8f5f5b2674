-- `advance`: each count grows with its own tag. Assumes nothing.
use native.Mathlib.Omega.{arith}
use Rattle.files.specs.Inner.Places.{advanced}
use Rattle.files.proofs.advance.Goals as goal

pub overflow_cast-tag : goal.overflow_cast-tag
overflow_cast-tag c = omega (arith, c.type_inv.file c.args.c.at)

pub returns : goal.returns
unfolding advanced
returns c =
    rw (
      ← c.u16_at-many.ensures.0,
      ← c.grown.ensures,
      ← c.grown-2.ensures,
      ← c.grown-3.ensures,
      ← c.grown-4.ensures,
    )
