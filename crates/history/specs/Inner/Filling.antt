-- A system that is being filled, row by row.
use Rattle.std.specs.Prelude.{◌≡◌, List, ℕ, ◌<◌, Float}
use Rattle.elimination.specs.Elimination.{Matrix, row}
use Rattle.definition.specs.Extrapolation.{system_row}
use Rattle.history.specs.declared.Kept.{Kept}

-- the rows above row k are there
pub record RowsAbove (s : Kept) (m : ℕ) (kept : List Float) (k : ℕ) (above : Matrix) : Type 0 where
  pub each : (a : ℕ) → a < k → row above a ≡ system_row s.depth s.p m kept a
