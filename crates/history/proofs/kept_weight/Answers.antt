-- `kept_weight`: one place of what is kept, inside. Assumes nothing.
use native.Mathlib.Omega.{arith}
use Rattle.history.proofs.Laws.System.{kept-place}
use Rattle.history.proofs.kept_weight.Goals as goal

pub overflow_mul-result : goal.overflow_mul-result
overflow_mul-result c = let h = kept-place _ _ _ _ _ c.requires.0 c.requires.1 c.requires.2 in omega arith

pub overflow_add-result : goal.overflow_add-result
overflow_add-result c = let h = kept-place _ _ _ _ _ c.requires.0 c.requires.1 c.requires.2 in omega arith

pub offset_bounds-kept-r : goal.offset_bounds-kept-r
offset_bounds-kept-r c = let h = kept-place _ _ _ _ _ c.requires.0 c.requires.1 c.requires.2 in omega arith

pub bounds-kept-r : goal.bounds-kept-r
bounds-kept-r c = kept-place _ _ _ _ _ c.requires.0 c.requires.1 c.requires.2
