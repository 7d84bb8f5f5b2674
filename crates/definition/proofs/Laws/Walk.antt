-- A walk that its tests do not refuse: the settings are legal with each alpha of the list, so that each of its fits passes the tests of its own two calls.
-- And what the first usable fit is: one of them, and none before it is usable. Assumes nothing.
use mathlib.Core.Path.{◌≡◌, refl, sym, ap, ◌∙◌}
use mathlib.Core.Bool.{true, false, false≢true}
use mathlib.Core.List.{List}
use Prim.Native.Nat.{ℕ, ◌≤◌, ◌<◌}
use borrow.Author.Tests.{leb-true}
use lib.Dec.{lit≤}
use lib.ListN.{length}
use lib.Ieee.{Float}
use Rattle.doubles.specs.Num.{#0, at, ◌and◌}
use Rattle.doubles.specs.Answer.{refused, none}
use Rattle.doubles.proofs.Laws.Choice.{and_both}
use Rattle.doubles.proofs.Laws.Ends.{refused≢answered}
use Rattle.doubles.proofs.Laws.Steps.{all-each}
use Rattle.doubles.proofs.Laws.Verdict.{AtMost, none_most, unless_at_most, then_most, spared_at, spared, then-none}
use Rattle.penalties.specs.Penalty.{alpha_legal}
use Rattle.penalties.proofs.Alpha.{another_alpha, zero-legal}
use Rattle.designs.specs.Given.{Given}
use Rattle.designs.specs.Search.{mark}
use Rattle.designs.specs.Checks.{contents, sized_fault, admitted, room_twice, preparation_fault}
use Rattle.std.specs.Prelude.{Some, None}
use Rattle.designs.specs.declared.Shape.{Shape}
use Rattle.designs.proofs.Laws.Numbers.{sized_most}
use Rattle.designs.proofs.Laws.Search.{marked, unmarked, none_first, first-none, first_found}
use Rattle.definition.specs.Preparation.{prepare_left}
use Rattle.definition.specs.Call.{start_legal, depth_legal, settings_fault, scratch_room, Lent, roomy, early_fault, solve_tests}
use Rattle.definition.specs.Run.{State}
use Rattle.definition.specs.Call.{End, untouched, given_up, done, report_of, answer, buffers}
use Rattle.definition.specs.Walk.{at_alpha, good_at, list_legal, list_fault, walk_early, walk_tests, usable_fit, first_usable}
use Rattle.definition.specs.declared.Settings.{Settings}
use Rattle.definition.proofs.Laws.Passed.{early_most, early as early'}
use Rattle.definition.proofs.Laws.Prepared.{still_long}

-- ---- one alpha for another
settings_alpha : (S : Settings) (a : Float) → alpha_legal a ≡ true → settings_fault (at_alpha S a) ≡ settings_fault (at_alpha S #0)
unfolding settings_fault start_legal depth_legal
settings_alpha S a h = rw (another_alpha S.penalty a #0 (h ∙ sym zero-legal))

-- ---- the list
module _ (alphas : List Float) (h : list_legal alphas ≡ true) where
  pub list_few : length alphas ≤ 64
  unfolding list_legal
  list_few = leb-true (length alphas) 64 (and_both _ _ (and_both _ _ h).1).0

  list_each : (k : ℕ) → k < length alphas → alpha_legal (at alphas k) ≡ true
  unfolding list_legal good_at
  list_each k l = (and_both _ _ (all-each (good_at alphas) (length alphas) (and_both _ _ (and_both _ _ h).1).1 k l)).0

  -- the settings with each of them
  pub settings-each : (S : Settings) → settings_fault (at_alpha S #0) ≡ none → (k : ℕ) → k < length alphas → settings_fault (at_alpha S (at alphas k)) ≡ none
  settings-each S e k l = settings_alpha S (at alphas k) (list_each k l) ∙ e

-- ---- the room does not depend on alpha
pub room_alpha : (g : Given) (S : Settings) (b : Lent) (a : Float) → roomy g.shape (at_alpha S a) b ≡ roomy g.shape S b
unfolding roomy scratch_room
room_alpha g S b a = refl

pub same-room : (g : Given) (S : Settings) (a : Float) → scratch_room g.shape (at_alpha S a) ≡ scratch_room g.shape S
unfolding scratch_room
same-room g S a = refl

-- nor does what a fit answers and leaves, once it is known how it ended
pub same_answer : (S : Settings) (a : Float) (e : End) → answer (at_alpha S a) e ≡ answer S e
unfolding report_of
same_answer S a (untouched number place) = refl
same_answer S a (given_up number place) = refl
same_answer S a (done s) = refl

pub same-buffers : (s : Shape) (S : Settings) (a : Float) (b : Lent) (e : End) → buffers s (at_alpha S a) b e ≡ buffers s S b e
unfolding scratch_room
same-buffers s S a b (untouched number place) = refl
same-buffers s S a b (given_up number place) = refl
same-buffers s S a b (done q) = refl

-- ---- where none refuses
pub record Passed (g : Given) (S : Settings) (alphas buf : List Float) (b : Lent) : Type 0 where
  pub early : early_fault g (at_alpha S #0) ≡ none
  pub list : list_legal alphas ≡ true
  pub numbers : room_twice g.shape.p buf ≡ true
  pub buffers : roomy g.shape S b ≡ true
  pub contents : contents g.shape.layout g ≡ none

module _ (g : Given) (S : Settings) (alphas buf : List Float) (b : Lent) where
  pub passed : walk_tests g S alphas buf b ≡ none → Passed g S alphas buf b
  unfolding walk_tests walk_early list_fault sized_fault
  passed e =
      let a = then-none (walk_early g S alphas) _ e in
      let c = then-none (early_fault g (at_alpha S #0)) _ a.0 in
      let r = spared (room_twice g.shape.p buf and roomy g.shape S b) 3 _ a.1 in
      let both = and_both _ _ r.0 in
      record {
        early = c.0;
        list = (spared_at (list_legal alphas) 2 7 none c.1).0;
        numbers = both.0;
        buffers = both.1;
        contents = r.1;
      }

  -- 1 to 6
  pub walk_most : AtMost 6 (walk_tests g S alphas buf b)
  unfolding walk_tests walk_early list_fault
  walk_most =
      then_most (walk_early g S alphas)
      (then_most (early_fault g (at_alpha S #0)) (early_most g (at_alpha S #0)) (unless_at_most 2 7 (lit≤ tt) (list_legal alphas) (none_most 6)))
      (sized_most g (room_twice g.shape.p buf and roomy g.shape S b))

  module _ (h : Passed g S alphas buf b) where
    settings-zero : settings_fault (at_alpha S #0) ≡ none
    settings-zero = (early' g (at_alpha S #0) h.early).1

    -- each fit's own two calls pass their tests
    pub preparation_passes : preparation_fault g buf ≡ none
    unfolding preparation_fault admitted sized_fault
    preparation_passes = rw ((early' g (at_alpha S #0) h.early).0, h.numbers, h.contents)

    solve_passes : (a : Float) → settings_fault (at_alpha S a) ≡ none → (handed : List Float) → length handed ≡ length buf
        → solve_tests g (at_alpha S a) handed b ≡ none
    unfolding solve_tests early_fault sized_fault ◌and◌
    solve_passes a s handed e =
        rw ((early' g (at_alpha S #0) h.early).0, s, e, h.numbers, room_alpha g S b a, h.buffers, h.contents)

    -- that with a good alpha in place of the settings' is what the walk itself asks for
    pub solve-zero : solve_tests g (at_alpha S #0) buf b ≡ none
    solve-zero = solve_passes #0 settings-zero buf refl

    pub solve-each : (k : ℕ) → k < length alphas → solve_tests g (at_alpha S (at alphas k)) (prepare_left g buf) b ≡ none
    solve-each k l = solve_passes (at alphas k) (settings-each alphas h.list S settings-zero k l) (prepare_left g buf) (still_long g buf preparation_passes)

-- ---- the first usable fit
module _ (S : Settings) (most : ℕ) where
  -- a usable fit is done, and so it is answered
  pub record Done (e : End) : Type 0 where
    pub state : State
    pub ends : e ≡ done state

  pub usable-done : (e : End) → usable_fit S most e ≡ true → Done e
  usable-done (untouched m k) u = absurd (false≢true u)
  usable-done (given_up m k) u = absurd (false≢true u)
  usable-done (done s) u = record { state = s; ends = refl }

  pub usable-answered : (e : End) → usable_fit S most e ≡ true → (number place : ℕ) → answer S e ≡ refused number place → ⊥
  usable-answered e u number place q =
      let d = usable-done e u in
      refused≢answered (sym q ∙ ap (answer S) d.ends)

  module _ (fits : ℕ → End) where
    -- it is one of them
    pub record Chosen (n k : ℕ) : Type 0 where
      pub inside : k < n
      pub usable : usable_fit S most (fits k) ≡ true
      pub before : (i : ℕ) → i < k → usable_fit S most (fits i) ≡ false

    pub chosen : (n k : ℕ) → first_usable S most fits n ≡ Some k → Chosen n k
    unfolding first_usable
    chosen n k e =
        let f = first_found (λ i. mark (usable_fit S most (fits i)) i) n k e in
        let m = marked (usable_fit S most (fits f.spot)) f.spot k f.here in
        record {
          inside = rw (← m.1) f.inside;
          usable = rw (← m.1) m.0;
          before = λ i l. unmarked (usable_fit S most (fits i)) i (f.before i (rw m.1 l));
        }

    -- none is found exactly where none is usable
    pub not-usable : (n : ℕ) → first_usable S most fits n ≡ None → (k : ℕ) → k < n → usable_fit S most (fits k) ≡ false
    unfolding first_usable
    not-usable n e k l = unmarked (usable_fit S most (fits k)) k (first-none (λ i. mark (usable_fit S most (fits i)) i) n e k l)

    pub none_usable : (n : ℕ) → ((k : ℕ) → k < n → usable_fit S most (fits k) ≡ false) → first_usable S most fits n ≡ None
    unfolding first_usable
    none_usable n h = none_first (λ i. mark (usable_fit S most (fits i)) i) n (λ i l. rw (h i l))
