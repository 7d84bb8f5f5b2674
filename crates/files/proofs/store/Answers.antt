-- `store`: by the tag, into one of the four arrays. Assumes nothing.
use Prim.Native.Nat.{◌+◌, ◌≤◌}
use native.Mathlib.Omega.{arith}
use lib.ListN.{length}
use Rattle.files.specs.Inner.Places.{Space}
use Rattle.files.proofs.Laws.Fields.{head_inside, body_inside}
use Rattle.files.proofs.store.Goals as goal
use Rattle.files.proofs.store.Goals.{After-u16_at-many}

-- the field's body lies in the file
body : (c : After-u16_at-many) → c.args.c.at + 3 + c.u16_at-many.result ≤ length c.args.file.now
body c = rw (← c.u16_at-many.ensures.0) at (body_inside _ _ c.requires.0)

-- and the arrays have room for it
space : (c : After-u16_at-many) → let a = c.args in
    Space a.file.now a.c (length a.targets.now) (length a.values.now) (length a.starts.now) (length a.rows.now)
space c = c.requires.2 c.if-not-keep.false

pub overflow_add-c : goal.overflow_add-c
overflow_add-c c = let h = head_inside _ _ c.requires.0 in omega arith

pub u16_at-many-requires : goal.u16_at-many-requires
u16_at-many-requires c = let h = head_inside _ _ c.requires.0 in (omega arith, c.requires.1)

pub overflow_add-body : goal.overflow_add-body
overflow_add-body c = let h = head_inside _ _ c.requires.0 in omega arith

pub bounds-file-c : goal.bounds-file-c
bounds-file-c c = let h = head_inside _ _ c.requires.0 in omega arith

pub put_doubles-requires : goal.put_doubles-requires
put_doubles-requires c =
    let here = goal.at.put_doubles-requires c in
    let inside = body here.After-u16_at-many in
    let room = rw (← c.u16_at-many.ensures.0) at ((space here.After-u16_at-many).targets c.in-2.is) in
    (omega arith, c.requires.1, room)

pub put_doubles-requires-in-3 : goal.put_doubles-requires-in-3
put_doubles-requires-in-3 c =
    let here = goal.at.put_doubles-requires-in-3 c in
    let inside = body here.After-u16_at-many in
    let room = rw (← c.u16_at-many.ensures.0) at ((space here.After-u16_at-many).values c.in-3.is) in
    (omega arith, c.requires.1, room)

pub put_indices-requires : goal.put_indices-requires
put_indices-requires c =
    let here = goal.at.put_indices-requires c in
    let inside = body here.After-u16_at-many in
    let room = rw (← c.u16_at-many.ensures.0) at ((space here.After-u16_at-many).starts c.in-4.is) in
    (omega arith, c.requires.1, room)

pub put_indices-requires-in-5 : goal.put_indices-requires-in-5
put_indices-requires-in-5 c =
    let here = goal.at.put_indices-requires-in-5 c in
    let inside = body here.After-u16_at-many in
    let room = rw (← c.u16_at-many.ensures.0) at ((space here.After-u16_at-many).rows c.in-5.is) in
    (omega arith, c.requires.1, room)
