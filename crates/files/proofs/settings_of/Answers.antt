-- `settings_of`: the two codes, and each number from its place. Assumes nothing.
use Rattle.doubles.specs.Num.{◌and◌}
use Rattle.files.specs.Problem.{header_settings}
use Rattle.files.specs.Inner.Places.{good_settings}
use Rattle.files.proofs.Laws.Fields.{none_if, some_of}
use Rattle.files.proofs.settings_of.Goals as goal

pub returns-in_err-penalty : goal.returns-in_err-penalty
unfolding good_settings ◌and◌
returns-in_err-penalty c = rw (c.from_residual.ensures, none_if _ _ c.in_err-penalty.ensures)

pub returns-in_err-extrapolate : goal.returns-in_err-extrapolate
unfolding good_settings ◌and◌
returns-in_err-extrapolate c =
    rw (c.from_residual-in_err-extrapolate.ensures, (some_of _ _ _ c.in_ok-penalty.ensures).0, none_if _ _ c.in_err-extrapolate.ensures)

pub returns : goal.returns
unfolding good_settings header_settings ◌and◌
returns c =
    let penalty = some_of _ _ _ c.in_ok-penalty.ensures in
    let extrapolate = some_of _ _ _ c.in_ok-extrapolate.ensures in
    rw (
      penalty.0,
      penalty.1,
      extrapolate.0,
      extrapolate.1,
      ← c.f64_at.ensures,
      ← c.u32_at.ensures.0,
      ← c.u32_at-2.ensures.0,
      ← c.u32_at-3.ensures.0,
    )
