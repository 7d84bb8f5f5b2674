-- The fits of a walk: what a search for the first usable one says, what its loop finds out of one fit, and that behind the tests each fit is preparing and
-- then solving with its alpha. Assumes nothing.
use mathlib.Core.Path.{◌≡◌, refl, sym, ap, ◌∙◌}
use mathlib.Core.Bool.{Bool, true, false}
use mathlib.Core.List.{List}
use Prim.Native.Nat.{ℕ, ◌+◌, ◌≤◌, ◌<◌}
use native.Mathlib.Nat.{le_antisymm}
use lib.ListN.{length}
use lib.Ieee.{Float}
use Rattle.doubles.specs.Num.{#0, at, pick}
use Rattle.doubles.specs.Steps.{tab, zeros}
use Rattle.doubles.specs.Buffer.{put}
use Rattle.doubles.specs.Answer.{Outcome, refused, answered, none}
use Rattle.std.specs.Prelude.{Option, Some, None}
use Rattle.doubles.proofs.Laws.Ends.{refused≢answered}
use Rattle.doubles.proofs.Laws.Steps.{steps-none, steps-same}
use Rattle.penalties.specs.Penalty.{alpha_of, with_alpha}
use Rattle.penalties.specs.declared.separable.Penalty.{Penalty}
use Rattle.penalties.specs.declared.separable.Penalty.TheVariants.{L1, L1PlusL2, MCP}
use Rattle.penalties.proofs.Alpha.{another_alpha, alpha_again, zero-legal}
use Rattle.penalties.proofs.Odd.{alpha_legal_lem}
use Rattle.designs.specs.Given.{Given}
use Rattle.designs.specs.Search.{or_else, first_of, mark}
use Rattle.designs.specs.Checks.{preparation_fault}
use Rattle.designs.specs.declared.Shape.{Shape}
use Rattle.designs.proofs.Laws.Search.{mark_on, mark_here}
use Rattle.definition.specs.WorkingSet.{nonzeros}
use Rattle.definition.specs.Preparation.{all_usable, prepared_of}
use Rattle.definition.specs.Call.{start_legal, depth_legal, settings_fault, scratch_room, Lent, End}
use Rattle.definition.specs.Call.{untouched, given_up, done, solved, report_of, answer, buffers}
use Rattle.definition.specs.Walk.{with_penalty, at_alpha, list_legal, walk_tests, usable_fit, first_usable, fit_at}
use Rattle.definition.specs.Walk.{position, end_at, walk_end, placed, placed_at, walk_call}
use Rattle.definition.specs.Walk.{walk_left, walk_numbers}
use Rattle.definition.specs.declared.Settings.{Settings}
use Rattle.definition.specs.declared.Report.{Report}
use Rattle.definition.specs.declared.Usable.{Usable}
use Rattle.definition.proofs.Laws.Settings.{penalty-legal}
use Rattle.definition.proofs.Laws.Pair.{pair_runs, pair_seven}
use Rattle.definition.proofs.Laws.Walk.{same-room, same_answer, settings-each, Passed, passed, preparation_passes, solve-each}
use Rattle.definition.proofs.Laws.Walk.{usable-answered, chosen, none_usable}
use Rattle.definition.specs.Epoch.{task}
use Rattle.solvers.specs.Inner.Left.{Leaves}
use Rattle.walks.specs.Inner.Fits.{fit_on, fit_with, said, judged, usable_of, end_of, answer_of, fit_passed, Holds, HoldsAt}

-- ---- what is answered, by what was found
placed-refused : (k number place : ℕ) (o : Outcome Report) → refused number place ≡ placed k o → o ≡ refused number place
placed-refused k number place (refused m i) e = cc
placed-refused k number place (answered r) e = absurd (refused≢answered e)

module _ (S : Settings) (most : ℕ) (fits : ℕ → End) where
  pub answer-refused : (n number place : ℕ) → refused number place ≡ answer_of S most fits n → first_usable S most fits n ≡ None
  answer-refused n number place = go (first_usable S most fits n) refl
    where
      go : (f : Option ℕ) → first_usable S most fits n ≡ f → refused number place ≡ placed_at f (answer S (end_at fits f)) → f ≡ None
      go (Some k) q e = absurd (usable-answered S most (fits k) (chosen S most fits n k q).usable number place (placed-refused k number place _ e))
      go None q e = refl

  pub answer-found : (s : Shape) (n : ℕ) (u : Usable) {w fit : List Float} {is : List ℕ} {room : List Float} → answered u ≡ answer_of S most fits n
      → HoldsAt s S fits (first_usable S most fits n) w fit is room → Holds s S (end_of S most fits n) w fit is room
  answer-found s n u = go (first_usable S most fits n)
    where
      go : (f : Option ℕ) {w fit : List Float} {is : List ℕ} {room : List Float} → answered u ≡ placed_at f (answer S (end_at fits f))
          → HoldsAt s S fits f w fit is room → Holds s S (end_at fits f) w fit is room
      go (Some k) e h = h
      go None e h = absurd (refused≢answered (sym e))

-- ---- one fit, in the loop
-- by its answer and its weights, what is said of it
judged_so : (S : Settings) (most k : ℕ) (s : Shape) (w fit : List Float) (e : End) → Leaves s e w fit → (o : Outcome Report) → o ≡ answer S e
    → judged o (nonzeros w) most k ≡ said S most k e
judged_so S most k s w fit (untouched m i) l o q = absurd l
judged_so S most k s w fit (given_up m i) l o q = rw q refl
judged_so S most k s w fit (done z) l o q = rw (q, l.0) refl

-- and what that says
module _ (S : Settings) (most : ℕ) (e : End) (k : ℕ) where
  pub said-found : (u : Usable) → answered u ≡ said S most k e → (usable_fit S most e ≡ true) × (answered u ≡ placed k (answer S e))
  said-found u = go (usable_fit S most e)
    where
      go : (b : Bool) → answered u ≡ pick b (placed k (answer S e)) (refused 11 0) → (b ≡ true) × (answered u ≡ placed k (answer S e))
      go true q = (refl, q)
      go false q = absurd (refused≢answered (sym q))

  pub said-not : (number place : ℕ) → refused number place ≡ said S most k e → usable_fit S most e ≡ false
  said-not number place q = go (usable_fit S most e) refl q
    where
      go : (b : Bool) → usable_fit S most e ≡ b → refused number place ≡ pick b (placed k (answer S e)) (refused 11 0) → b ≡ false
      go true u q = absurd (usable-answered S most e u number place (placed-refused k number place _ q))
      go false u q = refl

-- a run that is judged
pub tried : (g : Given) (S : Settings) (prepared : List Float) (most k : ℕ) (o : Outcome Report) (w fit : List Float) (is : List ℕ) (room : List Float)
    (many : ℕ) (v : Outcome Usable)
    → (let end = solved (task g.shape g.starts g.rows g.values S.penalty prepared) g.targets S in
    (o ≡ answer S end) × Leaves g.shape end w fit × (is ≡ tab (λ j. 0) g.shape.p) × (room ≡ zeros (scratch_room g.shape S)))
    → many ≡ nonzeros w → v ≡ judged o many most k
    → (v ≡ said S most k (fit_on g prepared S)) × Holds g.shape S (fit_on g prepared S) w fit is room
unfolding fit_on
tried g S prepared most k o w fit is room many v r em ev = (
  ev ∙ rw em (judged_so S most k g.shape w fit (fit_on g prepared S) r.1 o r.0),
  record { leaves = r.1; indices = r.2; scratch = r.3 },
)

-- the settings t that it ran with are those with this alpha, which tells in nothing else
same-said : (S : Settings) (a : Float) (most k : ℕ) (e : End) → said (at_alpha S a) most k e ≡ said S most k e
unfolding report_of
same-said S a most k (untouched number place) = refl
same-said S a most k (given_up number place) = refl
same-said S a most k (done s) = refl

pub tried_alpha : (g : Given) (S : Settings) (prepared : List Float) (alpha : Float) (most k : ℕ) (t : Settings) → t ≡ at_alpha S alpha
    → (v : Outcome Usable) (w fit : List Float) (is : List ℕ) (room : List Float)
    → (v ≡ said t most k (fit_on g prepared t)) × Holds g.shape t (fit_on g prepared t) w fit is room
    → (let end = fit_on g prepared (at_alpha S alpha) in (v ≡ said S most k end) × Holds g.shape S end w fit is room)
tried_alpha g S prepared alpha most k t et v w fit is room h =
    let r = rw et at h in (
      r.0 ∙ same-said S alpha most k (fit_on g prepared (at_alpha S alpha)),
      record { leaves = r.1.leaves; indices = r.1.indices; scratch = r.1.scratch ∙ ap zeros (same-room g S alpha) },
    )

-- ---- all of them, in the loop
-- legal settings are legal with each alpha of a legal list
own_alpha : (P : Penalty) → with_alpha P (alpha_of P) ≡ P
own_alpha (L1 alpha) = refl
own_alpha (L1PlusL2 alpha r) = refl
own_alpha (MCP alpha gamma) = refl

at_zero : (S : Settings) → settings_fault S ≡ none → settings_fault (at_alpha S #0) ≡ none
unfolding settings_fault start_legal depth_legal
at_zero S e =
    let own = alpha_legal_lem S.penalty (penalty-legal S e) in
    rw (another_alpha S.penalty #0 (alpha_of S.penalty) (zero-legal ∙ sym own), own_alpha S.penalty) e

pub legal-each : (S : Settings) → settings_fault S ≡ none → (alphas : List Float) → list_legal alphas ≡ true → (k : ℕ) → k < length alphas
    → settings_fault (at_alpha S (at alphas k)) ≡ none
legal-each S e alphas h k l = settings-each alphas h S (at_zero S e) k l

-- the buffers as ready with another alpha
pub room-each : (s : Shape) (S : Settings) (a : Float) → scratch_room s (at_alpha S a) ≡ scratch_room s S
unfolding scratch_room
room-each s S a = refl

pub none_yet : (S : Settings) (most : ℕ) (fits : ℕ → End) → None ≡ first_usable S most fits 0
unfolding first_usable
none_yet S most fits = steps-none _ _

module _ (S : Settings) (most : ℕ) (fits : ℕ → End) (k : ℕ) (so_far : None ≡ first_usable S most fits k) where
  -- the next one is not usable
  pub still_none : (v : Option Usable) → v ≡ None → usable_of v ≡ said S most k (fits k) → None ≡ first_usable S most fits (k + 1)
  unfolding first_usable
  still_none v h e =
      let not-usable = said-not S most (fits k) k 11 0 (sym (ap usable_of h) ∙ e) in
      mark_on (λ i. usable_fit S most (fits i)) (λ i. i) k _ so_far refl not-usable

  -- or it is
  found_here : (n : ℕ) → k < n → usable_fit S most (fits k) ≡ true → Some k ≡ first_usable S most fits n
  unfolding first_usable
  found_here n l h = mark_here (λ i. usable_fit S most (fits i)) (λ i. i) k _ so_far refl n h l

-- what is returned where one is usable, and where none was
module _ (S : Settings) (most : ℕ) (fits : ℕ → End) (n k : ℕ) (so_far : None ≡ first_usable S most fits k) where
  pub found : k < n → (u : Usable) → answered u ≡ said S most k (fits k) → (s : Shape) {w fit : List Float} {is : List ℕ} {room : List Float}
      → Holds s S (fits k) w fit is room → (answered u ≡ answer_of S most fits n) × HoldsAt s S fits (first_usable S most fits n) w fit is room
  found l u e s h =
      let said_so = said-found S most (fits k) k u e in
      let here = found_here S most fits k so_far n l said_so.0 in
      rw (← here) (said_so.1, h)

  pub found_none : k ≤ n → n ≤ k → (s : Shape) (w fit : List Float) (is : List ℕ) (room : List Float)
      → (refused 11 0 ≡ answer_of S most fits n) × HoldsAt s S fits (first_usable S most fits n) w fit is room
  found_none l m s w fit is room = let here : None ≡ first_usable S most fits n = rw (le_antisymm l m) at so_far in rw (← here) (refl, tt)

-- ---- on the tile's own numbers
module _ (g : Given) (S : Settings) (alphas numbers : List Float) (e : numbers ≡ prepared_of g) (u : Bool) (eu : u ≡ all_usable g.shape.p numbers) where
  pub fits-usable : u ≡ true → fit_with g S alphas numbers ≡ fit_passed g S alphas
  unfolding fit_passed
  fits-usable h = rw (← e, ← eu, h)

  pub none-prepared : u ≡ false → (most : ℕ) (s : Shape) (w fit : List Float) (is : List ℕ) (room : List Float)
      → (let fits = fit_passed g S alphas in
      (refused 11 0 ≡ answer_of S most fits (length alphas)) × HoldsAt s S fits (first_usable S most fits (length alphas)) w fit is room)
  unfolding fit_passed
  none-prepared h most s w fit is room = rw (← e, ← eu, h, none_usable S most (λ k. untouched 7 0) (length alphas) (λ k l. refl)) (refl, tt)

-- ---- where all is cleared at the end, because none is usable
pub cleared : (S : Settings) (most : ℕ) (fits : ℕ → End) (n : ℕ) (v : Option Usable) → v ≡ None → usable_of v ≡ answer_of S most fits n
    → (s : Shape) (w fit : List Float) (is : List ℕ) (room : List Float)
    → w ≡ zeros s.p → fit ≡ zeros s.n → is ≡ tab (λ j. 0) s.p → room ≡ zeros (scratch_room s S)
    → (refused 11 0 ≡ answer_of S most fits n) × Holds s S (end_of S most fits n) w fit is room
cleared S most fits n v h e s w fit is room ew ef ei er =
    let refused_so = sym (ap usable_of h) ∙ e in
    let none-found = answer-refused S most fits n 11 0 refused_so in
    (refused_so, rw none-found (record { leaves = (ew, ef); indices = ei; scratch = er }))

-- ---- behind the tests
module _ (g : Given) (S : Settings) (alphas buf : List Float) (b : Lent) (h : walk_tests g S alphas buf b ≡ none) where
  abbrev ok : Passed g S alphas buf b
  ok = passed g S alphas buf b h

  -- preparing and then solving is the run on the tile's own numbers
  fit_passed_lem : (k : ℕ) → k < length alphas → fit_at g S alphas buf b k ≡ fit_passed g S alphas k
  unfolding fit_at fit_passed
  fit_passed_lem k l = go (all_usable g.shape.p (prepared_of g)) refl
    where
      passes : preparation_fault g buf ≡ none
      passes = preparation_passes g S alphas buf b ok

      go : (u : Bool) → all_usable g.shape.p (prepared_of g) ≡ u → fit_at g S alphas buf b k ≡ fit_passed g S alphas k
      go true u = rw u (unfold fit_on in pair_runs g (at_alpha S (at alphas k)) buf b passes (solve-each g S alphas buf b ok k l) u)
      go false u = rw u (pair_seven g (at_alpha S (at alphas k)) buf b passes u)

  module _ (most : ℕ) where
    abbrev many : ℕ
    many = length alphas

    same-position : position g S alphas most buf b ≡ first_usable S most (fit_passed g S alphas) many
    unfolding position first_usable
    same-position = steps-same _ _ many None (λ k l r. ap (λ (e : End). or_else r (mark (usable_fit S most e) k)) (fit_passed_lem k l))

    same_end : walk_end g S alphas most buf b ≡ end_of S most (fit_passed g S alphas) many
    unfolding walk_end
    same_end = rw (h, same-position) (go (first_usable S most (fit_passed g S alphas) many) refl)
      where
        go : (f : Option ℕ) → first_usable S most (fit_passed g S alphas) many ≡ f → end_at (fit_at g S alphas buf b) f ≡ end_at (fit_passed g S alphas) f
        go (Some k) q = fit_passed_lem k (chosen S most (fit_passed g S alphas) many k q).inside
        go None q = refl

    same-call : walk_call g S alphas most buf b ≡ answer_of S most (fit_passed g S alphas) many
    unfolding walk_call
    same-call = rw (same-position, same_end)

    -- what is left, together
    pub left-walk : (o : Outcome Usable) (b' : Lent) (numbers : List Float) → o ≡ answer_of S most (fit_passed g S alphas) many
        → b' ≡ buffers g.shape S b (end_of S most (fit_passed g S alphas) many) → numbers ≡ put buf 0 (zeros (g.shape.p + g.shape.p))
        → (o ≡ walk_call g S alphas most buf b) × (b' ≡ walk_left g S alphas most buf b) × (numbers ≡ walk_numbers g S alphas buf b)
    unfolding walk_left walk_numbers
    left-walk o b' numbers eo eb en = (eo ∙ sym same-call, eb ∙ rw same_end, en ∙ rw h)

-- ---- with a good alpha in place of the settings': nothing else of a walk depends on theirs
twice : (S : Settings) (a b : Float) → at_alpha (at_alpha S a) b ≡ at_alpha S b
twice S a b = ap (with_penalty S) (alpha_again S.penalty a b)

module _ (g : Given) (S : Settings) (alphas : List Float) (a : Float) where
  fits-alike : fit_passed g (at_alpha S a) alphas ≡ fit_passed g S alphas
  unfolding fit_passed
  fits-alike = ap (λ (f : ℕ → End). pick (all_usable g.shape.p (prepared_of g)) f (λ k. untouched 7 0))
      (λ i k. fit_on g (prepared_of g) (twice S a (at alphas k) i))

  module _ (most : ℕ) where
    abbrev many' : ℕ
    many' = length alphas

    usable-alike : (e : End) → usable_fit (at_alpha S a) most e ≡ usable_fit S most e
    unfolding report_of
    usable-alike (untouched m k) = refl
    usable-alike (given_up m k) = refl
    usable-alike (done s) = refl

    first-alike : (fits : ℕ → End) → first_usable (at_alpha S a) most fits many' ≡ first_usable S most fits many'
    unfolding first_usable
    first-alike fits = ap (λ (u : ℕ → Bool). first_of (λ k. mark (u k) k) many') (λ i k. usable-alike (fits k) i)

    end-alike : end_of (at_alpha S a) most (fit_passed g (at_alpha S a) alphas) many' ≡ end_of S most (fit_passed g S alphas) many'
    end-alike = rw (first-alike (fit_passed g (at_alpha S a) alphas), fits-alike)

    answer-alike : answer_of (at_alpha S a) most (fit_passed g (at_alpha S a) alphas) many' ≡ answer_of S most (fit_passed g S alphas) many'
    answer-alike = rw (first-alike (fit_passed g (at_alpha S a) alphas), fits-alike, same_answer S a _)

    -- t are the settings with a good alpha
    pub walked_good : (t : Settings) → t ≡ at_alpha S a → (o : Outcome Usable) (w fit : List Float) (is : List ℕ) (room : List Float)
        → (let fits = fit_passed g t alphas in (o ≡ answer_of t most fits many') × Holds g.shape t (end_of t most fits many') w fit is room)
        → (let fits = fit_passed g S alphas in (o ≡ answer_of S most fits many') × Holds g.shape S (end_of S most fits many') w fit is room)
    walked_good t et o w fit is room h =
        let r = rw et at h in (
          r.0 ∙ answer-alike,
          record { leaves = rw (← end-alike) r.1.leaves; indices = r.1.indices; scratch = r.1.scratch ∙ ap zeros (same-room g S a) },
        )

-- ---- the walk, by what its tests found
module _ (g : Given) (S : Settings) (alphas : List Float) (most : ℕ) (buf : List Float) (b : Lent) where
  pub left-refused : (number place : ℕ) → refused number place ≡ walk_tests g S alphas buf b
      → (refused number place ≡ walk_call g S alphas most buf b) × (b ≡ walk_left g S alphas most buf b) × (buf ≡ walk_numbers g S alphas buf b)
  unfolding walk_call walk_left walk_end walk_numbers
  left-refused number place e = rw (← e) (go (position g S alphas most buf b), refl, refl)
    where
      go : (f : Option ℕ) → refused number place ≡ placed_at f (refused number place)
      go (Some k) = refl
      go None = refl
