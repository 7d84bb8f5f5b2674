-- `header_of`: a first field that is whole, with its tag and its length; then the shape and the settings. Assumes nothing.
use mathlib.Core.Path.{sym, ◌∙◌}
use native.Mathlib.Omega.{arith}
use borrow.Author.Tests.{ne_eqb}
use Rattle.doubles.specs.Num.{◌and◌}
use Rattle.files.specs.Problem.{good_header}
use Rattle.files.specs.Inner.Places.{header_in}
use Rattle.files.proofs.Laws.Fields.{head_inside, header-long, header_by, none_if, some_of}
use Rattle.files.proofs.header_of.Goals as goal
use Rattle.files.proofs.header_of.Goals.{then-not-is_whole-via-then-not-is_whole, then-not-is_whole-via-else-not-is_whole+then-file-ne1}
use Rattle.files.proofs.header_of.Goals.{then-not-is_whole-via-else-not-is_whole+else-file-ne1+then-u16_at-ne48}

pub bounds-file-0 : goal.bounds-file-0
bounds-file-0 c = let h = head_inside _ _ (sym c.is_whole.ensures ∙ c.if-not-is_whole.false) in omega arith

pub u16_at-requires : goal.u16_at-requires
u16_at-requires c = (head_inside _ _ (sym c.is_whole.ensures ∙ c.if-not-is_whole.false), c.requires)

pub returns-then-not-is_whole : goal.returns-then-not-is_whole
unfolding header_in good_header ◌and◌
returns-then-not-is_whole c =
    elim c.then-not-is_whole.branch [
      | then-not-is_whole-via-then-not-is_whole w ↦ rw (← c.is_whole.ensures, w.if-not-is_whole.true)
      | then-not-is_whole-via-else-not-is_whole+then-file-ne1 w ↦
          rw (← c.is_whole.ensures, w.if-not-is_whole.false, ne_eqb _ _ w.if-file-ne1.true)
      | then-not-is_whole-via-else-not-is_whole+else-file-ne1+then-u16_at-ne48 w ↦
          rw (← c.is_whole.ensures, w.if-not-is_whole.false, w.if-file-ne1.false, ← w.u16_at.ensures.0, ne_eqb _ _ w.if-u16_at-ne48.true)
    ]

pub shape_of-requires : goal.shape_of-requires
shape_of-requires c =
    (header-long _ _ (sym c.is_whole.ensures ∙ c.if-not-is_whole.false) c.u16_at.ensures.0 c.if-u16_at-ne48.false, c.requires)

pub settings_of-requires : goal.settings_of-requires
settings_of-requires c =
    (header-long _ _ (sym c.is_whole.ensures ∙ c.if-not-is_whole.false) c.u16_at.ensures.0 c.if-u16_at-ne48.false, c.requires)

pub returns-in_err-shape : goal.returns-in_err-shape
unfolding header_in ◌and◌
returns-in_err-shape c =
    let by = header_by _ c.if-file-ne1.false (sym c.u16_at.ensures.0 ∙ c.if-u16_at-ne48.false) in
    rw (c.from_residual.ensures, ← c.is_whole.ensures, c.if-not-is_whole.false, by, none_if _ _ c.in_err-shape.ensures)

pub returns-in_err-settings : goal.returns-in_err-settings
unfolding header_in ◌and◌
returns-in_err-settings c =
    let by = header_by _ c.if-file-ne1.false (sym c.u16_at.ensures.0 ∙ c.if-u16_at-ne48.false) in
    let shape = some_of _ _ _ c.in_ok-shape.ensures in
    rw (
      c.from_residual-in_err-settings.ensures,
      ← c.is_whole.ensures,
      c.if-not-is_whole.false,
      by,
      shape.0,
      none_if _ _ c.in_err-settings.ensures,
    )

pub returns : goal.returns
unfolding header_in ◌and◌
returns c =
    let by = header_by _ c.if-file-ne1.false (sym c.u16_at.ensures.0 ∙ c.if-u16_at-ne48.false) in
    let shape = some_of _ _ _ c.in_ok-shape.ensures in
    let settings = some_of _ _ _ c.in_ok-settings.ensures in
    rw (← c.is_whole.ensures, c.if-not-is_whole.false, by, shape.0, settings.0, shape.1, settings.1)
