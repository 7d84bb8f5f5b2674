-- `read_fields`: the invariant is that what was read so far leads to what the whole file gives. Assumes nothing.
use mathlib.Core.Path.{◌≡◌}
use mathlib.Core.Bool.{true}
use Rattle.files.specs.Problem.{whole}
use Rattle.files.proofs.Laws.Walk.{walked_none, counts-few, here_whole, space_now}
use Rattle.files.proofs.Laws.Walk.{next_less, walked_more, walked_all}
use Rattle.files.proofs.Laws.Fields.{head_inside}
use Rattle.files.proofs.read_fields.Goals as goal
use Rattle.files.proofs.read_fields.Goals.{In-loop-layout}

-- the next field lies in the file
here : (c : In-loop-layout) → whole c.args.file.now c.loop-layout.c.at ≡ true
here c = here_whole _ _ _ _ _ _ c.requires.1 c.requires.3 c.loop-layout.invariant c.is_good.ensures c.loop-layout-test.true

pub loop-layout-init : goal.loop-layout-init
loop-layout-init c = walked_none _ _ _ _ _ _ c.requires.1 c.requires.3 c.requires.0

pub store-requires : goal.store-requires
store-requires c =
    let space = space_now _ _ _ _ _ _ c.requires.1 c.requires.3 c.loop-layout.invariant c.is_good.ensures c.loop-layout-test.true in
    (here (goal.at.store-requires c).In-loop-layout, c.requires.1, space)

pub advance-c-requires : goal.advance-c-requires
advance-c-requires c =
    let few = counts-few _ _ _ _ _ _ c.requires.1 c.requires.3 c.loop-layout.invariant in
    (head_inside _ _ (here (goal.at.advance-c-requires c).In-loop-layout), c.requires.1, few.0, few.1, few.2, few.3)

pub loop-layout-smaller : goal.loop-layout-smaller
loop-layout-smaller c =
    next_less _ _ _ _ _ _ c.requires.1 c.requires.3 c.loop-layout.invariant c.is_good.ensures c.loop-layout-test.true _ c.advance-c.ensures

pub loop-layout-preserved : goal.loop-layout-preserved
loop-layout-preserved c =
    let kept = c.store.ensures in
    let more = walked_more _ _ _ _ _ _ c.requires.1 c.requires.3 c.loop-layout.invariant c.is_good.ensures c.loop-layout-test.true in
    more _ _ _ _ _ kept.0 kept.1 kept.2 kept.3 c.advance-c.ensures

pub returns : goal.returns
returns c = walked_all _ _ _ _ _ _ c.requires.1 c.requires.3 c.loop-layout.invariant c.is_good.ensures c.loop-layout-test.false
