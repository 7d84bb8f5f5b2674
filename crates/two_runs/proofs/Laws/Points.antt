-- Weights that are related place by place stay so when one is set; two related points have one working set, and a visit keeps them related.
-- Assumes nothing.
use mathlib.Core.Path.{◌≡◌, refl, ap, ◌∙◌}
use mathlib.Core.Bool.{Bool, true, false}
use mathlib.Core.List.{List, [], ◌∷◌, ◌++◌}
use Prim.Native.Nat.{ℕ, ◌≤◌, ◌<◌}
use native.Mathlib.Nat.{le_refl, le_trans}
use lib.Dec.{eqb}
use lib.ListN.{length, get_or, set, length-set}
use lib.Seq.{get_or-set_same, get_or-set_other}
use lib.Ieee.{Float, nan, eq}
use borrow.Author.Tests.{eqb-true, eqb-false}
use Rattle.doubles.specs.Num.{#0, at, pick}
use Rattle.doubles.specs.Steps.{zeros, upto}
use Rattle.doubles.proofs.Laws.Choice.{smaller_most}
use Rattle.doubles.proofs.Laws.Steps.{steps-same, tab-same, length-tab, get_or-tab}
use Rattle.definition.specs.WorkingSet.{is_zero, support, size, insert, others, working_set}
use Rattle.definition.specs.Epoch.{Point, constant, known, all_known, violations, worst, known_in, worst_in, fine, visited, visit, visits}
use Rattle.definition.specs.Run.{start_size, chosen_set}
use Rattle.worksets.proofs.Laws.Sets.{size_most, length-working_set, working_set-each}
use Rattle.two_runs.specs.Stages.{Both, both-going, both-bad}
use Rattle.two_runs.specs.Alike.{Pair, first, second, Weights, Points, FeatureSet, Respects}
use Rattle.two_runs.proofs.Laws.Loops.{related, all_same, largest-same, upto_related}

-- ---- weights
module _ (P : Pair) where
  pub weights-set : {w w' : List Float} {x x' : Float} → Weights P w w' → (j : ℕ) → j < P.p → P.weight j x x'
      → Weights P (set w j x) (set w' j x')
  weights-set {w} {w'} {x} {x'} r j l v = record {
    each = λ k m. go k m (eqb k j) refl;
    size = length-set w j x ∙ r.size;
    size' = length-set w' j x' ∙ r.size';
  }
    where
      go : (k : ℕ) → k < P.p → (b : Bool) → eqb k j ≡ b → P.weight k (at (set w j x) k) (at (set w' j x') k)
      go k m true e =
          rw (eqb-true k j e, get_or-set_same w j x nan (rw r.size l), get_or-set_same w' j x' nan (rw r.size' l)) v
      go k m false e =
          rw (get_or-set_other w j k x nan (eqb-false k j e), get_or-set_other w' j k x' nan (eqb-false k j e)) (r.each k m)

  pub weights-zero : ((j : ℕ) → j < P.p → P.weight j #0 #0) → Weights P (zeros P.p) (zeros P.p)
  weights-zero h = record {
    each = λ j l. rw (get_or-tab (λ j. #0) P.p j nan l) (h j l);
    size = length-tab (λ j. #0) P.p;
    size' = length-tab (λ j. #0) P.p;
  }

-- ---- the working set
module _ (w w' : List Float) (n : ℕ) (zero : (j : ℕ) → j < n → is_zero w j ≡ is_zero w' j) where
  pub support-same : support w n ≡ support w' n
  unfolding support
  support-same = steps-same _ _ n [] (λ j l b. ap (λ (x : Bool). pick x b (b ++ (j ∷ []))) (zero j l))

  others_same : (v : List Float) → others v w n ≡ others v w' n
  unfolding others
  others_same v = steps-same _ _ n [] (λ j l b. ap (λ (x : Bool). pick x (insert v j b) b) (zero j l))

  set_same : length w ≡ n → length w' ≡ n → (start : ℕ) (v : List Float) → working_set start v w ≡ working_set start v w'
  unfolding working_set size
  set_same e e' start v = rw (e, e', support-same, others_same v)

module _ (P : Pair) (H : Respects P) where
  -- ---- violations, over all features and over a working set
  module _ {q q' : Point} (r : Points P q q') where
    pub all_known_lem : all_known (first P) q.weights q.fit ≡ all_known (second P) q'.weights q'.fit
    unfolding all_known
    all_known_lem = all_same _ _ P.p (H.known r)

    pub worst-same : worst (first P) q.weights q.fit ≡ worst (second P) q'.weights q'.fit
    unfolding worst
    worst-same = largest-same _ _ P.p (H.violation r)

    module _ {ws : List ℕ} (C : FeatureSet P.p ws) where
      pub known_in_lem : known_in (first P) ws q.weights q.fit ≡ known_in (second P) ws q'.weights q'.fit
      unfolding known_in
      known_in_lem = all_same _ _ (length ws) (λ i l. H.known r (get_or ws i 0) (C.each i l))

      pub worst_in_lem : worst_in (first P) ws q.weights q.fit ≡ worst_in (second P) ws q'.weights q'.fit
      unfolding worst_in
      worst_in_lem = largest-same _ _ (length ws) (λ i l. H.violation r (get_or ws i 0) (C.each i l))

    pub chosen-same : chosen_set (first P) P.settings q ≡ chosen_set (second P) P.settings q'
    unfolding chosen_set violations
    chosen-same =
        rw (tab-same _ _ P.p (H.violation r))
        (set_same q.weights q'.weights P.p (λ j l. H.zero j l (r.weights.each j l)) r.weights.size r.weights.size'
        (start_size (first P) P.settings) _)

    pub chosen-fits : FeatureSet P.p (chosen_set (first P) P.settings q)
    unfolding chosen_set
    chosen-fits =
        let e = r.weights.size in
        let a = start_size (first P) P.settings in
        let v = violations (first P) q.weights q.fit in
        let h : a ≤ length q.weights = rw e (smaller_most P.settings.start P.p) in
        record {
          each = λ i l. rw e at (working_set-each a q.weights h v i l);
          few = rw (length-working_set a q.weights h v) (rw e at (size_most a q.weights h));
        }

  -- ---- visits
  visited_related : {q q' : Point} → Points P q q' → (j : ℕ) → j < P.p → eq (constant (first P) j) #0 ≡ false → fine (first P) q j ≡ true
      → Points P (visited (first P) q j) (visited (second P) q' j)
  unfolding visited
  visited_related r j l z f = record { weights = weights-set P r.weights j l (H.weight r j l z f); other = H.visited r j l z f }

  visit_related : (j : ℕ) → j < P.p → (q q' : Point) → Points P q q' → Both (Points P) (visit (first P) j q) (visit (second P) j q')
  unfolding visit
  visit_related j l q q' r =
      related (Both (Points P)) (H.skipped j l) (λ e. both-going r)
      (λ z. related (Both (Points P)) (H.fine r j l z) (λ f. both-going (visited_related r j l z f)) (λ f. both-bad))

  -- the first n visits, and all of them
  module _ {ws : List ℕ} (C : FeatureSet P.p ws) {q q' : Point} (r : Points P q q') where
    pub visits_so_far : (n : ℕ) → n ≤ length ws
        → Both (Points P) (upto (λ i. visit (first P) (get_or ws i 0)) n q) (upto (λ i. visit (second P) (get_or ws i 0)) n q')
    visits_so_far n l =
        upto_related (λ (k : ℕ). Points P) (Points P) _ _ n _ _ r (λ i m x y s. visit_related (get_or ws i 0) (C.each i (le_trans m l)) x y s)

    pub visits_related : Both (Points P) (visits (first P) ws q) (visits (second P) ws q')
    unfolding visits
    visits_related = visits_so_far (length ws) (le_refl (length ws))
