-- `construct_ws`: the support, then the others behind it, lent the places up to the size. Assumes nothing.
use mathlib.Core.Path.{◌≡◌, ap, ◌∙◌}
use Prim.Native.Nat.{◌≤◌}
use lib.ListN.{length}
use Rattle.doubles.specs.Steps.{tab}
use Rattle.worksets.proofs.Laws.Sets.{support-few}
use Rattle.worksets.proofs.Laws.Places.{sized, bounds, rank_room, set_made}
use borrow.Author.Rules.{rules}
use native.Mathlib.Omega.{arith}
use Rattle.worksets.proofs.inner.construct_ws.Goals as goal
use Rattle.worksets.proofs.inner.construct_ws.Goals.{After-size-many, After-support-nonzero}

-- the lent places are as many as the weights
long : (c : After-support-nonzero) → length c.support-nonzero.new.indices ≡ length c.args.w.now
long c = c.support-nonzero.auto.indices ∙ c.clear_indices.auto.indices ∙ c.requires.3

-- the size lies between the support's and the number of weights
between : (c : After-size-many) → (c.support-nonzero.result ≤ c.size-many.result) × (c.size-many.result ≤ length c.args.w.now)
between c =
    let a = c.args in
    let within = bounds a.start a.kkt.now a.w.now c.support-nonzero.result c.size-many.result in
    within c.requires.2 c.support-nonzero.ensures.0 c.size-many.ensures

pub support-nonzero-requires : goal.support-nonzero-requires
support-nonzero-requires c =
    (c.clear_indices.ensures ∙ ap (tab (λ k. 0)) c.requires.3, c.requires.1)

pub size-many-requires : goal.size-many-requires
size-many-requires c =
    let few = support-few c.args.w.now (length c.args.w.now) in
    let many = c.support-nonzero.ensures.0 in
    let most = c.requires.1 in
    omega arith

pub offset_bounds-indices-nonzero : goal.offset_bounds-indices-nonzero
offset_bounds-indices-nonzero c =
    let here = goal.at.offset_bounds-indices-nonzero c in
    let low = (between here.After-size-many).0 in
    let high = (between here.After-size-many).1 in
    let most = c.requires.1 in
    search rules

pub slice_bounds-rank-count : goal.slice_bounds-rank-count
slice_bounds-rank-count c = (between (goal.at.slice_bounds-rank-count c).After-size-many).0

pub slice_bounds-rank-start : goal.slice_bounds-rank-start
slice_bounds-rank-start c = (between (goal.at.slice_bounds-rank-start c).After-size-many).0

pub rank-requires : goal.rank-requires
rank-requires c =
    let here = goal.at.rank-requires c in
    let a = c.args in
    let room = rank_room a.start a.kkt.now a.w.now c.support-nonzero.result c.size-many.result in
    let left = room c.requires.2 c.support-nonzero.ensures.0 c.size-many.ensures c.support-nonzero.new.indices (long here.After-support-nonzero) in
    (c.requires.0, c.requires.1, left, c.requires.4)

pub returns : goal.returns
returns c =
    let ranked = c.rank in
    let many = c.support-nonzero.ensures.0 in
    let a = c.args in
    let is-size = sized a.start a.kkt.now a.w.now c.support-nonzero.result c.size-many.result in
    let is_set = set_made a.start a.kkt.now a.w.now c.support-nonzero.result c.size-many.result in
    let made = is_set c.requires.2 many c.size-many.ensures c.support-nonzero.new.indices ranked.new.ranked in
    (is-size c.requires.2 many c.size-many.ensures, made (long (goal.at.returns c).After-support-nonzero) c.support-nonzero.ensures.1 ranked.ensures)
