-- Two walks over one list, of calls that turn likewise: each alpha's two fits are alike by the pair's law, so that both have the property or neither has,
-- and the first that has it stands at one position. Assumes nothing.
use mathlib.Core.Path.{◌≡◌, refl, sym, ap, ◌∙◌}
use mathlib.Core.Bool.{Bool, true}
use mathlib.Core.List.{List}
use Prim.Native.Nat.{ℕ}
use lib.ListN.{length}
use lib.Ieee.{Float}
use Rattle.doubles.specs.Num.{at}
use Rattle.doubles.specs.Answer.{refused, answered, Fault, none}
use Rattle.doubles.specs.Sign.{Signs}
use Rattle.doubles.proofs.Laws.Compare.{eq_turned}
use Rattle.doubles.proofs.Laws.Signs.{zero-turned, signs-at, signs-length}
use Rattle.doubles.proofs.Laws.Steps.{steps-same}
use Rattle.designs.specs.Given.{Given}
use Rattle.designs.specs.Search.{or_else, mark}
use Rattle.std.specs.Prelude.{Option, Some, None}
use Rattle.definition.specs.WorkingSet.{nonzeros}
use Rattle.definition.specs.Run.{State}
use Rattle.definition.specs.Call.{Lent, End, given_up, behind, report_of, answer, buffers}
use Rattle.definition.specs.Pair.{pair_call, pair_left}
use Rattle.definition.specs.Walk.{at_alpha, walk_tests, wanted, usable_fit, first_usable, fit_at, position, end_at}
use Rattle.definition.specs.Walk.{walk_end, placed_at, walk_call, walk_left, walk_numbers}
use Rattle.definition.specs.declared.Settings.{Settings}
use Rattle.definition.proofs.Laws.Ends.{given_up≢done}
use Rattle.definition.proofs.Laws.Pair.{pair_done}
use Rattle.definition.proofs.Laws.Walk.{same_answer, same-buffers, usable-done, chosen}
use Rattle.two_runs.specs.Stages.{Ends, both-untouched, both-given_up, both-done}
use Rattle.two_runs.proofs.Laws.Loops.{ends_map, behind_related}
use Rattle.two_runs.proofs.Laws.Points.{support-same}
use Rattle.signs.specs.Turning.{with_numbers, Turning, SameRun, SameLeft, SameCall, SameWalk}
use Rattle.signs.proofs.Laws.Faults.{walk_tests-same}
use Rattle.signs.proofs.Laws.Left.{buffers-turned}
use Rattle.signs.proofs.SignLaw.{sign_law}

-- ---- the property does not turn
nonzeros-same : {s : ℕ → Bool} {w w' : List Float} → Signs s w w' → nonzeros w ≡ nonzeros w'
nonzeros-same {s} {w} {w'} h =
    rw (← signs-length h) (ap length (support-same w w' (length w) (λ j l. eq_turned (signs-at h j) (zero-turned (s j)))))

usable_same : {c : ℕ → Bool} {t : Bool} (S : Settings) (most : ℕ) {e e' : End} → Ends (SameRun c t S) e e' → usable_fit S most e ≡ usable_fit S most e'
unfolding wanted
usable_same S most both-untouched = refl
usable_same S most both-given_up = refl
usable_same S most (both-done u) = rw (u.status, nonzeros-same u.weights)

-- nor do the settings' alphas tell in what is compared
same-run : {c : ℕ → Bool} {t : Bool} (S : Settings) (a : Float) (s s' : State) → SameRun c t (at_alpha S a) s s' → SameRun c t S s s'
unfolding report_of
same-run S a s s' u = record {
  status = u.status;
  iterations = u.iterations;
  epochs = u.epochs;
  extrapolations = u.extrapolations;
  violation = u.violation;
  sets = u.sets;
  weights = u.weights;
  fit = u.fit;
}

module _ (g : Given) {c σ : ℕ → Bool} {t : Bool} {values' y' : List Float} (buf : List Float) (b : Lent)
    (stored : Signs σ g.values values') (targets : Signs (λ (i : ℕ). t) g.targets y')
    (law : (S : Settings) → SameCall c t g (with_numbers g values' y') S buf b) (S : Settings) (alphas : List Float) (most : ℕ) where
  abbrev other : Given
  other = with_numbers g values' y'

  -- ---- one alpha's fits
  abbrev fits : ℕ → End
  fits = fit_at g S alphas buf b

  abbrev fits' : ℕ → End
  fits' = fit_at other S alphas buf b

  fits_alike : (k : ℕ) → Ends (SameRun c t S) (fits k) (fits' k)
  unfolding fit_at
  fits_alike k = ends_map (same-run S (at alphas k)) (law (at_alpha S (at alphas k))).run

  fits-answer : (k : ℕ) → answer S (fits k) ≡ answer S (fits' k)
  unfolding fit_at pair_call
  fits-answer k = sym (same_answer S (at alphas k) (fits k)) ∙ (law (at_alpha S (at alphas k))).answer ∙ same_answer S (at alphas k) (fits' k)

  fits-left : (k : ℕ) → usable_fit S most (fits k) ≡ true → SameLeft c t g.shape (buffers g.shape S b (fits k)) (buffers g.shape S b (fits' k))
  unfolding fit_at pair_left
  fits-left k u =
      let S' = at_alpha S (at alphas k) in
      let d = usable-done S most (fits k) u in
      let p = pair_done g S' buf b d.state d.ends in
      rw (← same-buffers g.shape S (at alphas k) b (fits k), ← same-buffers g.shape S (at alphas k) b (fits' k)) ((law S').left p.0 p.1)

  -- ---- the walk
  tests_same : walk_tests g S alphas buf b ≡ walk_tests other S alphas buf b
  tests_same = walk_tests-same g stored targets S alphas buf b

  position-same : position g S alphas most buf b ≡ position other S alphas most buf b
  unfolding position first_usable
  position-same =
      steps-same _ _ (length alphas) None (λ k l r. ap (λ (x : Bool). or_else r (mark x k)) (usable_same S most (fits_alike k)))

  ends_alike : (f : Option ℕ) → Ends (SameRun c t S) (end_at fits f) (end_at fits' f)
  ends_alike (Some k) = fits_alike k
  ends_alike None = both-given_up

  walks_alike : Ends (SameRun c t S) (walk_end g S alphas most buf b) (walk_end other S alphas most buf b)
  unfolding walk_end
  walks_alike = rw (← position-same) (behind_related tests_same (λ e. ends_alike (position g S alphas most buf b)))

  walks_answer : walk_call g S alphas most buf b ≡ walk_call other S alphas most buf b
  unfolding walk_call walk_end
  walks_answer = rw (← position-same, ← tests_same) (go (walk_tests g S alphas buf b) (position g S alphas most buf b))
    where
      go : (f : Fault) (at : Option ℕ) → placed_at at (answer S (behind f (end_at fits at))) ≡ placed_at at (answer S (behind f (end_at fits' at)))
      go (refused number place) at = refl
      go (answered u) (Some k) = ap (placed_at (Some k)) (fits-answer k)
      go (answered u) None = refl

  walks_left : walk_tests g S alphas buf b ≡ none → SameLeft c t g.shape (walk_left g S alphas most buf b) (walk_left other S alphas most buf b)
  unfolding walk_left walk_end
  walks_left e = rw (e, sym tests_same ∙ e, ← position-same) (go (position g S alphas most buf b) refl)
    where
      go : (f : Option ℕ) → position g S alphas most buf b ≡ f
          → SameLeft c t g.shape (buffers g.shape S b (end_at fits f)) (buffers g.shape S b (end_at fits' f))
      go (Some k) q = fits-left k (chosen S most fits (length alphas) k (unfold position in q)).usable
      go None q = buffers-turned c t g.shape S b (given_up 11 0) (given_up 11 0) refl (λ s h. absurd (given_up≢done h)) both-given_up

  pub walk_law_passed : SameWalk c t g other S alphas most buf b
  unfolding walk_numbers
  walk_law_passed = record {
    refusal = tests_same;
    answer = walks_answer;
    run = walks_alike;
    left = walks_left;
    numbers = rw tests_same;
  }

pub walk_law : {c : ℕ → Bool} {t : Bool} {g : Given} {values' y' : List Float} → Turning c t g values' y'
    → (S : Settings) (alphas : List Float) (most : ℕ) (buf : List Float) (b : Lent) → SameWalk c t g (with_numbers g values' y') S alphas most buf b
walk_law {g = g} turning S alphas most buf b =
    walk_law_passed g buf b turning.stored turning.targets (λ S'. sign_law turning S' buf b) S alphas most
