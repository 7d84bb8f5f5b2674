-- `scratch_room`: by whether extrapolation is on. Assumes nothing.
use native.Mathlib.Omega.{arith}
use Rattle.definition.proofs.Laws.Settings.{shallow}
use Rattle.decisions.proofs.Laws.Room.{room_small}
use Rattle.definition.specs.Call.{scratch_room}
use Rattle.decisions.proofs.scratch_room.Goals as goal

pub overflow_mul-result : goal.overflow_mul-result
overflow_mul-result c = let h = shallow _ c.requires.2 c.if-settings.true in omega arith

pub overflow_add-result : goal.overflow_add-result
overflow_add-result c = let h = shallow _ c.requires.2 c.if-settings.true in omega arith

pub overflow_mul-result-then-settings : goal.overflow_mul-result-then-settings
overflow_mul-result-then-settings c =
    let h = room_small _ _ _ (shallow _ c.requires.2 c.if-settings.true)
    c.requires.1 c.requires.0 in
    omega arith

pub overflow_add-result-then-settings : goal.overflow_add-result-then-settings
overflow_add-result-then-settings c =
    let h = room_small _ _ _ (shallow _ c.requires.2 c.if-settings.true)
    c.requires.1 c.requires.0 in
    omega arith

pub returns-then-settings : goal.returns-then-settings
unfolding scratch_room
returns-then-settings c = rw c.if-settings.true

pub returns-else-settings : goal.returns-else-settings
unfolding scratch_room
returns-else-settings c = rw c.if-settings.false
