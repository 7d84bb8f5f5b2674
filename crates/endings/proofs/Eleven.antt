-- Refusal 11 and the answer of a walk: a fit is usable exactly where its alpha has the property, for the p weights that it leaves are those it is done at;
-- and the walk ends by its tests, by finding none, or by the first usable fit. Assumes nothing.
use mathlib.Core.Path.{◌≡◌, refl, sym, ap, ◌∙◌}
use mathlib.Core.Bool.{Bool, true, false, false≢true}
use mathlib.Core.Logic.{◌⊎◌, inl, inr}
use mathlib.Core.List.{List}
use Prim.Native.Nat.{ℕ, zero, suc, ◌+◌, ◌-◌, ◌≤◌, ◌<◌, zero-le}
use native.Mathlib.Nat.{add-zero, add-suc}
use native.Mathlib.Omega.{arith}
use borrow.Author.Tests.{leb-true, leb-false, le-leb, ne_eqb}
use lib.Dec.{leb, eqb}
use lib.ListN.{length, take}
use lib.Ieee.{Float, lt}
use Rattle.doubles.specs.Num.{#0, at, finite, ◌and◌, ◌or◌}
use Rattle.doubles.specs.Steps.{zeros}
use Rattle.doubles.specs.Answer.{refused, answered, Fault, none}
use Rattle.doubles.proofs.Laws.Choice.{and_both}
use Rattle.doubles.proofs.Laws.Ends.{refused≢answered}
use Rattle.doubles.proofs.Laws.Less.{not_less_trans, not_less_back}
use Rattle.doubles.proofs.Laws.Parts.{part_at}
use Rattle.doubles.proofs.Laws.Steps.{all-each, steps-same}
use Rattle.penalties.specs.Penalty.{alpha_legal}
use Rattle.penalties.specs.declared.separable.Penalty.{Penalty}
use Rattle.penalties.proofs.Alpha.{alpha_again}
use Rattle.designs.specs.Given.{Given}
use Rattle.designs.specs.Search.{or_else, mark}
use Rattle.std.specs.Prelude.{Option, Some, None}
use Rattle.definition.specs.WorkingSet.{nonzeros}
use Rattle.definition.specs.Run.{State}
use Rattle.definition.specs.Preparation.{prepare_left}
use Rattle.definition.specs.Call.{Lent, filled, End, untouched, given_up, done, behind, report_of, answer}
use Rattle.definition.specs.Pair.{pair_call, pair_left}
use Rattle.definition.specs.Walk.{with_penalty, at_alpha, good_at, list_legal, walk_early, walk_tests, wanted, usable_fit, first_usable, fit_at, position}
use Rattle.definition.specs.Walk.{end_at}
use Rattle.definition.specs.Walk.{walk_end, placed, placed_at, walk_call, walk_left, walk_numbers}
use Rattle.definition.specs.declared.Settings.{Settings}
use Rattle.definition.specs.declared.Report.{Report}
use Rattle.definition.specs.declared.Status.{Status}
use Rattle.definition.specs.declared.Status.TheVariants.{Met, Spent}
use Rattle.definition.specs.Status.{is_met}
use Rattle.definition.specs.declared.Usable.{Usable}
use Rattle.definition.proofs.Laws.Pair.{pair_done}
use Rattle.definition.proofs.Laws.Walk.{room_alpha, same_answer, same-buffers, passed, walk_most, usable-done, Chosen, chosen, not-usable}
use Rattle.endings.specs.Eleven.{settings_at, Property, AsAlone, Eleven}
use Rattle.endings.proofs.Completed.{completed}

is_met-true : (s : Status) → is_met s ≡ true → s ≡ Met
is_met-true Met e = refl
is_met-true Spent e = absurd (false≢true e)

module _ (g : Given) (S : Settings) (alphas : List Float) (most : ℕ) (buf : List Float) (b : Lent) where
  abbrev fits : ℕ → End
  fits = fit_at g S alphas buf b

  abbrev At' : ℕ → Settings
  At' = settings_at g S alphas most buf b

  abbrev Has : ℕ → Type 0
  Has = Property g S alphas most buf b

  -- ---- one alpha
  -- what it leaves in the first p places are the weights that it is done at
  first-weights : (k : ℕ) (s : State) → fits k ≡ done s → take g.shape.p (pair_left g (At' k) buf b).weights ≡ s.inner.point.weights
  unfolding fit_at pair_left
  first-weights k s e =
      let w = s.inner.point.weights in
      let size = ((completed g (At' k) (prepare_left g buf) b).run s (pair_done g (At' k) buf b s e).2).weights in
      rw e (part_at b.weights 0 g.shape.p w zero-le size)

  answered_so : (k : ℕ) (s : State) → fits k ≡ done s → pair_call g (At' k) buf b ≡ answered (report_of S s)
  unfolding fit_at pair_call
  answered_so k s e = same_answer S (at alphas k) (fits k) ∙ ap (answer S) e

  is_wanted : (r : Report) (nonzero : ℕ) → r.status ≡ Met → nonzero ≤ most → wanted most r nonzero ≡ true
  unfolding wanted ◌and◌
  is_wanted r nonzero e l = rw (e, le-leb _ _ l)

  has : (k : ℕ) → k < length alphas → usable_fit S most (fits k) ≡ true → Has k
  unfolding wanted
  has k l u =
      let d = usable-done S most (fits k) u in
      let s = d.state in
      let w = and_both (is_met (report_of S s).status) (leb (nonzeros s.inner.point.weights) most) (rw d.ends at u) in
      record {
        inside = l;
        report = report_of S s;
        answers = answered_so k s d.ends;
        met = is_met-true _ w.0;
        few = rw (first-weights k s d.ends) (leb-true _ _ w.1);
      }

  is_usable : (k : ℕ) → Has k → usable_fit S most (fits k) ≡ true
  is_usable k h = go (fits k) refl
    where
      refused_so : (e : End) → fits k ≡ e → answer S e ≡ answered h.report
      refused_so e q = ap (answer S) (sym q) ∙ sym (same_answer S (at alphas k) (fits k)) ∙ (unfold fit_at pair_call in h.answers)

      go : (e : End) → fits k ≡ e → usable_fit S most e ≡ true
      go (untouched number place) q = absurd (refused≢answered (refused_so (untouched number place) q))
      go (given_up number place) q = absurd (refused≢answered (refused_so (given_up number place) q))
      go (done s) q =
          let r : report_of S s ≡ h.report = (let e = refused_so (done s) q in cc) in
          is_wanted (report_of S s) (nonzeros s.inner.point.weights) (ap (λ (r : Report). r.status) r ∙ h.met) (rw (first-weights k s q) at h.few)

  -- ---- the list falls, so that no later alpha is larger
  module _ (h : list_legal alphas ≡ true) where
    good : (k : ℕ) → k < length alphas → good_at alphas k ≡ true
    unfolding list_legal
    good k l = all-each (good_at alphas) (length alphas) (and_both _ _ (and_both _ _ h).1).1 k l

    known : (k : ℕ) → k < length alphas → finite (at alphas k) ≡ true
    unfolding good_at alpha_legal
    known k l = (and_both _ _ (and_both _ _ (good k l)).0).0

    falls : (k : ℕ) → suc k < length alphas → lt (at alphas (suc k)) (at alphas k) ≡ true
    unfolding good_at ◌or◌
    falls k l =
        let first : eqb (suc k) 0 ≡ false = ne_eqb (suc k) 0 (λ z. omega (arith, z)) in
        let back : suc k - 1 ≡ k = omega arith in
        rw (first, back) at (and_both _ _ (good (suc k) l)).1

    not-larger : (p d : ℕ) → p + d < length alphas → lt (at alphas p) (at alphas (p + d)) ≡ false
    not-larger p zero l = rw add-zero (not_itself (lt (at alphas p) (at alphas p)) refl)
      where
        not_itself : (b : Bool) → lt (at alphas p) (at alphas p) ≡ b → b ≡ false
        not_itself true e = sym e ∙ not_less_back (at alphas p) (at alphas p) e
        not_itself false e = refl
    not-larger p (suc d) l =
        let below : p + d < length alphas = omega arith in
        let next : suc (p + d) < length alphas = omega arith in
        rw (add-suc p d)
        (not_less_trans (at alphas p) (at alphas (p + d)) (at alphas (suc (p + d))) (known (p + d) below) (not-larger p d below)
        (not_less_back (at alphas (suc (p + d))) (at alphas (p + d)) (falls (p + d) next)))

  -- ---- how a walk ends
  pub data How : Type 0 where
    by_tests : (number place : ℕ) → walk_tests g S alphas buf b ≡ refused number place → walk_call g S alphas most buf b ≡ refused number place
        → walk_end g S alphas most buf b ≡ untouched number place → How
    by-none : walk_tests g S alphas buf b ≡ none → position g S alphas most buf b ≡ None → walk_call g S alphas most buf b ≡ refused 11 0
        → walk_end g S alphas most buf b ≡ given_up 11 0 → How
    by-fit : walk_tests g S alphas buf b ≡ none → (k : ℕ) → Chosen S most fits (length alphas) k → (s : State) → fits k ≡ done s
        → walk_call g S alphas most buf b ≡ answered (record { position = k; report = report_of S s }) → walk_end g S alphas most buf b ≡ fits k → How

  how : How
  unfolding walk_call walk_end
  how = go (walk_tests g S alphas buf b) refl (position g S alphas most buf b) refl
    where
      refused-at : (number place : ℕ) (f : Option ℕ) → placed_at f (refused number place) ≡ refused number place
      refused-at number place (Some k) = refl
      refused-at number place None = refl

      go : (f : Fault) → walk_tests g S alphas buf b ≡ f → (p : Option ℕ) → position g S alphas most buf b ≡ p → How
      go (refused number place) e p q = by_tests number place e (rw e (refused-at number place (position g S alphas most buf b))) (rw e)
      go (answered u) e None q = by-none e q (rw (e, q)) (rw (e, q))
      go (answered u) e (Some k) q =
          let c = chosen S most fits (length alphas) k (unfold position in q) in
          let d = usable-done S most (fits k) c.usable in
          by-fit e k c d.state d.ends (rw (e, q) (ap (λ (x : End). placed k (answer S x)) d.ends)) (rw (e, q))

  -- ---- the statement
  abbrev Refused : ℕ → ℕ → Type 0
  Refused number place = walk_call g S alphas most buf b ≡ refused number place

  only : (place : ℕ) → Refused 11 place → (walk_tests g S alphas buf b ≡ none) × (place ≡ 0) × ((k : ℕ) → Has k → ⊥)
  only place e = go how
    where
      go : How → (walk_tests g S alphas buf b ≡ none) × (place ≡ 0) × ((k : ℕ) → Has k → ⊥)
      go (by_tests number i t c x) =
          let n : number ≡ 11 = cc in
          let l = (walk_most g S alphas buf b).most number i t in
          absurd (omega arith)
      go (by-none t q c x) = (
        t,
        cc,
        λ k h. false≢true (sym (not-usable S most fits (length alphas) (unfold position in q) k h.inside) ∙ is_usable k h),
      )
      go (by-fit t k h s q c x) = absurd (refused≢answered (sym e ∙ c))

  whenever : walk_tests g S alphas buf b ≡ none → ((k : ℕ) → Has k → ⊥) → Refused 11 0
  whenever t h = go how
    where
      go : How → Refused 11 0
      go (by_tests number i u c x) = absurd (refused≢answered (sym u ∙ t))
      go (by-none u q c x) = c
      go (by-fit u k d s q c x) = absurd (h k (has k d.inside d.usable))

  zero' : (place : ℕ) → Refused 11 place → walk_left g S alphas most buf b ≡ filled g.shape S b (zeros g.shape.p) (zeros g.shape.n)
  unfolding walk_left
  zero' place e = go how
    where
      go : How → walk_left g S alphas most buf b ≡ filled g.shape S b (zeros g.shape.p) (zeros g.shape.n)
      go (by_tests number i t c x) =
          let n : number ≡ 11 = cc in
          let l = (walk_most g S alphas buf b).most number i t in
          absurd (omega arith)
      go (by-none t q c x) = rw x
      go (by-fit t k d s q c x) = absurd (refused≢answered (sym e ∙ c))

  alone : (u : Usable) → walk_call g S alphas most buf b ≡ answered u → AsAlone g S alphas most buf b u
  alone u e = go how
    where
      largest : walk_tests g S alphas buf b ≡ none → (k : ℕ) → Chosen S most fits (length alphas) k → (i : ℕ) → Has i → lt (at alphas k) (at alphas i) ≡ false
      largest t k d i h = go (leb k i) refl
        where
          go : (b : Bool) → leb k i ≡ b → lt (at alphas k) (at alphas i) ≡ false
          go true e =
              let l = leb-true k i e in
              let within = h.inside in
              let apart : k + (i - k) ≡ i = omega arith in
              rw apart at (not-larger (passed g S alphas buf b t).list k (i - k) (omega arith))
          go false e = absurd (false≢true (sym (d.before i (leb-false k i e)) ∙ is_usable i h))

      at_position : walk_tests g S alphas buf b ≡ none → (k : ℕ) → Chosen S most fits (length alphas) k → (s : State) → fits k ≡ done s
          → walk_end g S alphas most buf b ≡ fits k → AsAlone g S alphas most buf b (record { position = k; report = report_of S s })
      at_position t k d s q x = record {
        property = has k d.inside d.usable;
        before = λ i l h. false≢true (sym (d.before i l) ∙ is_usable i h);
        largest = largest t k d;
        answers = answered_so k s q;
        left = unfold walk_left pair_left fit_at in same-buffers g.shape S (at alphas k) b (fits k) ∙ rw x;
      }

      go : How → AsAlone g S alphas most buf b u
      go (by_tests number i t c x) = absurd (refused≢answered (sym c ∙ e))
      go (by-none t q c x) = absurd (refused≢answered (sym c ∙ e))
      go (by-fit t k d s q c x) = let n : record { position = k; report = report_of S s } ≡ u = cc in rw (← n) (at_position t k d s q x)

  by_its_tests : (number place : ℕ) → number ≤ 6 → Refused number place
      → (walk_tests g S alphas buf b ≡ refused number place) × (walk_left g S alphas most buf b ≡ b) × (walk_numbers g S alphas buf b ≡ buf)
  unfolding walk_left walk_numbers
  by_its_tests number place l e = go how
    where
      go : How → (walk_tests g S alphas buf b ≡ refused number place) × (walk_left g S alphas most buf b ≡ b) × (walk_numbers g S alphas buf b ≡ buf)
      go (by_tests m i t c x) =
          let n : m ≡ number = (let o = sym c ∙ e in cc) in
          let p : i ≡ place = (let o = sym c ∙ e in cc) in
          (rw (← n, ← p) t, rw x, rw t)
      go (by-none t q c x) = absurd (let n : number ≡ 11 = cc in omega arith)
      go (by-fit t k d s q c x) = absurd (refused≢answered (sym e ∙ c))

  no_other : (number place : ℕ) → Refused number place → (number ≤ 6) ⊎ (number ≡ 11)
  no_other number place e = go how
    where
      go : How → (number ≤ 6) ⊎ (number ≡ 11)
      go (by_tests m i t c x) = inl (let n : m ≡ number = cc in rw (← n) ((walk_most g S alphas buf b).most m i t))
      go (by-none t q c x) = inr cc
      go (by-fit t k d s q c x) = absurd (refused≢answered (sym e ∙ c))

  -- ---- another alpha in the settings
  module _ (alpha : Float) where
    abbrev S' : Settings
    S' = at_alpha S alpha

    settings-same : (a : Float) → at_alpha S' a ≡ at_alpha S a
    settings-same a = ap (λ (P : Penalty). with_penalty S P) (alpha_again S.penalty alpha a)

    tests_same : walk_tests g S' alphas buf b ≡ walk_tests g S alphas buf b
    unfolding walk_tests walk_early
    tests_same = rw (settings-same #0, room_alpha g S b alpha)

    fits-same : (k : ℕ) → fit_at g S' alphas buf b k ≡ fits k
    unfolding fit_at
    fits-same k = rw (settings-same (at alphas k))

    usable_same : (e : End) → usable_fit S' most e ≡ usable_fit S most e
    unfolding report_of
    usable_same (untouched number place) = refl
    usable_same (given_up number place) = refl
    usable_same (done s) = refl

    position-same : position g S' alphas most buf b ≡ position g S alphas most buf b
    unfolding position first_usable
    position-same =
        steps-same _ _ (length alphas) None
        (λ k l r. ap (λ (x : Bool). or_else r (mark x k)) (usable_same (fit_at g S' alphas buf b k) ∙ ap (usable_fit S most) (fits-same k)))

    end_same : walk_end g S' alphas most buf b ≡ walk_end g S alphas most buf b
    unfolding walk_end
    end_same = rw (tests_same, position-same) (ap (behind (walk_tests g S alphas buf b)) (go (position g S alphas most buf b)))
      where
        go : (f : Option ℕ) → end_at (fit_at g S' alphas buf b) f ≡ end_at fits f
        go (Some k) = fits-same k
        go None = refl

    unused : (walk_call g S' alphas most buf b ≡ walk_call g S alphas most buf b)
        × (walk_left g S' alphas most buf b ≡ walk_left g S alphas most buf b)
        × (walk_numbers g S' alphas buf b ≡ walk_numbers g S alphas buf b)
    unfolding walk_call walk_left walk_numbers
    unused = (
      rw (position-same, end_same, same_answer S alpha (walk_end g S alphas most buf b)),
      rw (end_same, same-buffers g.shape S alpha b (walk_end g S alphas most buf b)),
      rw tests_same,
    )

  pub eleven : Eleven g S alphas most buf b
  eleven = record { only = only; whenever = whenever; zero = zero'; answers = alone; tests = by_its_tests; no_other = no_other; alpha_unused = unused }
