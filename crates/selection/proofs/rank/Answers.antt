-- `rank`: the first with zero weight, made a heap, which is offered the rest and then put in order. Assumes nothing.
use mathlib.Core.Path.{◌≡◌, ◌∙◌}
use Prim.Native.Nat.{◌≤◌}
use lib.ListN.{length}
use Rattle.doubles.proofs.Laws.Counts.{same_trans}
use Rattle.selection.proofs.Laws.Select.{room-few, room-left, first-known, chosen-known, chosen-first, chosen_none}
use native.Mathlib.Omega.{arith}
use Rattle.selection.proofs.rank.Goals as goal
use Rattle.selection.proofs.rank.Goals.{Start}

-- what is ranked is no longer than 8192
few : (c : Start) → length c.args.ranked.now ≤ 8192
few c = room-few c.args.kkt.now c.args.w.now (length c.args.ranked.now) 8192 c.requires.2 c.requires.1

pub keep_first-from-requires : goal.keep_first-from-requires
keep_first-from-requires c =
    (c.requires.1, room-left c.args.kkt.now c.args.w.now _ c.requires.2)

pub heapify-requires : goal.heapify-requires
heapify-requires c =
    let most = few (goal.at.heapify-requires c).Start in
    let first = c.keep_first-from in
    let long = first.auto.kept in (
      omega arith,
      first-known c.requires.0 c.requires.3 first.ensures.0 (first.ensures.1 c.args.kkt.now),
    )

pub offer_rest-requires : goal.offer_rest-requires
offer_rest-requires c =
    let first = c.keep_first-from in
    let made = c.heapify in
    let some = c.if-ranked-gt0.true in
    let most = few (goal.at.offer_rest-requires c).Start in
    let long = first.auto.kept in
    let long' = made.auto.kept in (
      omega arith,
      omega arith,
      c.requires.0,
      c.requires.1,
      first.ensures.0,
      c.requires.3,
      made.ensures.0,
      same_trans made.new.kept first.new.kept _ made.ensures.1 (first.ensures.1 c.args.kkt.now),
    )

pub sort-requires : goal.sort-requires
sort-requires c =
    let most = few (goal.at.sort-requires c).Start in
    let long = c.keep_first-from.auto.kept in
    let long' = c.heapify.auto.kept in
    let long'' = c.offer_rest.auto.kept in
    (omega arith, chosen-known c.requires.0 c.requires.3 c.offer_rest.ensures.1, c.offer_rest.ensures.0)

pub returns-then-ranked-gt0 : goal.returns-then-ranked-gt0
returns-then-ranked-gt0 c =
    let sorted = c.sort in
    let long : length sorted.new.kept ≡ length c.args.ranked.now =
    sorted.auto.kept ∙ c.offer_rest.auto.kept ∙ c.heapify.auto.kept ∙ c.keep_first-from.auto.kept in
    rw long at (chosen-first c.requires.0 c.requires.3 sorted.ensures.0 sorted.ensures.1 c.offer_rest.ensures.1)

pub returns-else-ranked-gt0 : goal.returns-else-ranked-gt0
returns-else-ranked-gt0 c = chosen_none c.args.ranked.now _ c.if-ranked-gt0.false
