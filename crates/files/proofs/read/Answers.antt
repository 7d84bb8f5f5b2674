-- `read`: the tests in their order, a pass that keeps nothing and a pass that keeps the arrays. Assumes nothing.
use mathlib.Core.Path.{◌≡◌, refl, sym, ap, ◌∙◌}
use mathlib.Core.List.{List}
use mathlib.Core.Bool.{false≢true}
use Prim.Native.Nat.{ℕ, ◌≤◌}
use native.Mathlib.Omega.{arith}
use lib.ListN.{length}
use lib.Ieee.{Float}
use Rattle.doubles.specs.Buffer.{put}
use Rattle.files.specs.Problem.{read_all, header_shape, header_settings}
use Rattle.files.proofs.Laws.Fields.{is_header, is_none}
use Rattle.files.proofs.Laws.Calls.{places_same, room_of, too_long, no_header, not-ended, no_room, read_well, sizes-read, sizes-inside}
use Rattle.files.specs.Call.{places_suffice, places}
use Rattle.files.specs.Inner.Places.{Headed}
use Rattle.files.proofs.read.Goals as goal
use Rattle.files.proofs.read.Goals.{In-Some, After-read_fields-c, After-read_fields-d}

-- what the header says
header : (c : In-Some) → let h = c.in-Some.field-0 in
    let f = c.args.file.now in
    Headed f × (h.shape ≡ header_shape f) × (h.settings ≡ header_settings f)
header c = is_header _ _ c.in-Some.ensures

-- the first pass leaves what was lent
untouched : (c : After-read_fields-c) → let r = c.read_fields-c.new in let a = c.args in
    places r.targets r.values r.starts r.rows ≡ places a.targets.now a.values.now a.starts.now a.rows.now
untouched c = places_same c.read_fields-c.ensures.1 c.read_fields-c.ensures.2 c.read_fields-c.ensures.3 c.read_fields-c.ensures.4

-- the second pass puts what was read into the first places of what was lent
stored : (c : After-read_fields-d) → let r = c.read_fields-d.new in
    let a = c.args in
    let all = read_all a.file.now in
    places r.targets r.values r.starts r.rows
    ≡ places (put a.targets.now 0 all.targets) (put a.values.now 0 all.values) (put a.starts.now 0 all.starts) (put a.rows.now 0 all.rows)
stored c =
    let again = c.read_fields-d.ensures in
    let kept = c.read_fields-c.ensures in
    let all = read_all c.args.file.now in
    let targets = again.1 ∙ ap (λ (l : List Float). put l 0 all.targets) kept.1 in
    let values = again.2 ∙ ap (λ (l : List Float). put l 0 all.values) kept.2 in
    let starts = again.3 ∙ ap (λ (l : List ℕ). put l 0 all.starts) kept.3 in
    let rows = again.4 ∙ ap (λ (l : List ℕ). put l 0 all.rows) kept.4 in
    places_same targets values starts rows

pub returns-then-file-gt49152 : goal.returns-then-file-gt49152
returns-then-file-gt49152 c =
    let a = c.args in
    let lent = places a.targets.now a.values.now a.starts.now a.rows.now in
    let e = too_long _ lent c.if-file-gt49152.true _ refl in
    rw c.at.ensures (e.0, e.1, tt)

pub returns-in_default : goal.returns-in_default
returns-in_default c =
    let a = c.args in
    let lent = places a.targets.now a.values.now a.starts.now a.rows.now in
    let e = no_header a.file.now lent (omega arith) (is_none _ c.in_default.ensures) _ refl in
    rw c.at-in_default.ensures (e.0, e.1, tt)

pub read_fields-c-requires : goal.read_fields-c-requires
read_fields-c-requires c =
    let h = header (goal.at.read_fields-c-requires c).In-Some in
    (h.0, omega arith, rw h.1, λ k. absurd (false≢true k))

pub returns-then-c-file : goal.returns-then-c-file
returns-then-c-file c =
    let a = c.args in
    let lent = places a.targets.now a.values.now a.starts.now a.rows.now in
    let over = not-ended a.file.now lent (omega arith) _ c.read_fields-c.ensures.0 c.if-c-file.true in
    let e = over _ _ refl (untouched (goal.at.returns-then-c-file c).After-read_fields-c) in
    rw c.at-then-c-file.ensures (e.0, e.1, tt)

pub returns-then-not-has_room : goal.returns-then-not-has_room
returns-then-not-has_room c =
    let a = c.args in
    let lent = places a.targets.now a.values.now a.starts.now a.rows.now in
    let same = untouched (goal.at.returns-then-not-has_room c).After-read_fields-c in
    -- the test of the room is that of what was lent
    let room = c.has_room.ensures ∙ ap places_suffice same in
    let over = no_room a.file.now lent (omega arith) _ c.read_fields-c.ensures.0 c.if-c-file.false in
    let e = over (sym room ∙ c.if-not-has_room.true) _ _ refl same in
    rw c.at-then-not-has_room.ensures (e.0, e.1, tt)

pub read_fields-d-requires : goal.read_fields-d-requires
read_fields-d-requires c =
    let h = header (goal.at.read_fields-d-requires c).In-Some in
    (h.0, omega arith, rw h.1, λ k. room_of _ _ _ _ (sym c.has_room.ensures ∙ c.if-not-has_room.false))

pub returns : goal.returns
returns c =
    let at = goal.at.returns c in
    let a = c.args in
    let lent = places a.targets.now a.values.now a.starts.now a.rows.now in
    let h = header at.In-Some in
    let room = c.has_room.ensures ∙ ap places_suffice (untouched at.After-read_fields-c) in
    let counts = c.read_fields-d.ensures.0 in
    let sizes = sizes-read _ _ counts _ _ h.1 h.2 in
    let short : length a.file.now ≤ 49152 = omega arith in
    let over = read_well _ lent short _ c.read_fields-c.ensures.0 c.if-c-file.false (sym room ∙ c.if-not-has_room.false) in
    let e = over _ _ sizes (stored at.After-read_fields-d) in
    (e.0, e.1, sizes-inside _ _ counts short h.0 _ h.1)
