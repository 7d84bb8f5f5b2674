-- `shape_of`: the layout by its code, then the two sizes. Assumes nothing.
use borrow.Author.Tests.{le-leb}
use Rattle.doubles.specs.Num.{◌and◌}
use Rattle.files.specs.Problem.{header_shape}
use Rattle.files.specs.Inner.Places.{good_shape}
use Rattle.files.proofs.Laws.Fields.{none_if, some_of, too_large}
use Rattle.files.proofs.shape_of.Goals as goal

pub returns-in_err-layout : goal.returns-in_err-layout
unfolding good_shape ◌and◌
returns-in_err-layout c = rw (c.from_residual.ensures, none_if _ _ c.in_err-layout.ensures)

pub returns-then-n-gt256 : goal.returns-then-n-gt256
returns-then-n-gt256 c =
    let coded = (some_of _ _ _ c.in_ok-layout.ensures).0 in
    rw (too_large _ c.u32_at-n.ensures.0 c.u32_at-p.ensures.0 coded c.then-n-gt256.either)

pub returns : goal.returns
unfolding good_shape header_shape ◌and◌
returns c =
    let layout = some_of _ _ _ c.in_ok-layout.ensures in
    rw (layout.0, layout.1, ← c.u32_at-n.ensures.0, ← c.u32_at-p.ensures.0, le-leb _ _ c.if-n-gt256.false, le-leb _ _ c.if-p-gt32.false)
