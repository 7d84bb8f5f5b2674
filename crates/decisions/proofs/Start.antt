-- What `start_in_range` is proved by: a start below 1 is not legal, and of another the second bound decides. Assumes nothing.
use mathlib.Core.Path.{◌≡◌}
use mathlib.Core.Bool.{false}
use Prim.Native.Nat.{◌≤◌, ◌<◌}
use borrow.Author.Tests.{lt-leb, le-leb}
use Rattle.std.specs.Prelude.{leb}
use Rattle.doubles.specs.Num.{◌and◌}
use Rattle.definition.specs.Call.{start_legal}
use Rattle.definition.specs.declared.Settings.{Settings}

pub start_legal_above : (S : Settings) → 1 ≤ S.start → start_legal S ≡ leb S.start 8192
unfolding start_legal ◌and◌
start_legal_above S h = rw (le-leb _ _ h)

pub start_legal_zero : (S : Settings) → S.start < 1 → start_legal S ≡ false
unfolding start_legal ◌and◌
start_legal_zero S h = rw (lt-leb _ _ h)
