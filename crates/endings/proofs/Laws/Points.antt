-- Every point of a run is finite, and its fit holds no -0: zeros are so; a visit stores a weight and changes entries that were found finite; a candidate
-- is taken only where it is finite, and its fit grows from zeros. Assumes nothing.
use mathlib.Core.Path.{◌≡◌, refl, subst, ◌∙◌}
use mathlib.Core.Bool.{Bool, true, false}
use mathlib.Core.List.{List}
use mathlib.Core.Logic.{⊎_elim}
use Prim.Native.Nat.{ℕ, ◌<◌}
use lib.ListN.{length, set, length-set}
use lib.Ieee.{Float, nan, eq}
use Rattle.doubles.specs.Num.{◌⊖◌, #0, at, finite, pick}
use Rattle.doubles.specs.Steps.{tab, zeros}
use Rattle.doubles.proofs.Laws.Choice.{and_both}
use Rattle.doubles.proofs.Laws.Steps.{length-tab, get_or-tab, set-place, all-each}
use Rattle.doubles.proofs.Laws.Finite.{zero-finite}
use Rattle.designs.specs.Design.{moved, extrapolated}
use Rattle.designs.proofs.Laws.Moved.{Sures, moved_elsewhere, moved_sure, zeros_sure, extrapolated_sure}
use Rattle.definition.specs.Epoch.{Task, Point, new_weight, moved_by, moved_finite, fine, visited}
use Rattle.definition.specs.Extrapolation.{all_finite, better, point_of}
use Rattle.definition.specs.declared.Settings.{Settings}
use Rattle.two_runs.proofs.OneRun.{Keeps}
use Rattle.endings.proofs.Laws.Changed.{changed_finite}

-- n finite numbers, none of them -0
pub record Fit (n : ℕ) (f : List Float) : Type 0 where
  pub finite : (i : ℕ) → i < n → finite (at f i) ≡ true
  pub sure : Sures n f

pub record Weights (p : ℕ) (w : List Float) : Type 0 where
  pub size : length w ≡ p
  pub finite : (j : ℕ) → j < p → finite (at w j) ≡ true

pub record Good (n p : ℕ) (q : Point) : Type 0 where
  pub weights : Weights p q.weights
  pub fit : Fit n q.fit

zeros-finite : (n i : ℕ) → i < n → finite (at (tab (λ i. #0) n) i) ≡ true
zeros-finite n i l = rw (get_or-tab (λ i. #0) n i nan l) zero-finite

all_finite_lem : (f : List Float) (n : ℕ) → length f ≡ n → all_finite f ≡ true → (i : ℕ) → i < n → finite (at f i) ≡ true
unfolding all_finite
all_finite_lem f n e h i l = all-each (λ i. finite (at f i)) (length f) h i (rw e l)

module _ (T : Task) (y : List Float) (S : Settings) where
  start-good : Good T.n T.p (record { weights = zeros T.p; fit = zeros T.n })
  start-good = record {
    weights = record { size = length-tab (λ j. #0) T.p; finite = zeros-finite T.p };
    fit = record { finite = zeros-finite T.n; sure = zeros_sure T.n };
  }

  -- ---- a visit
  module _ (q : Point) (g : Good T.n T.p q) (j : ℕ) where
    weight-stored : (x : Float) → finite x ≡ true → Weights T.p (set q.weights j x)
    weight-stored x h =
        let w = g.weights in
        record {
          size = length-set q.weights j x ∙ w.size;
          finite = λ i l. set-place q.weights j x nan (λ (z : Float). finite z ≡ true) i (λ e. rw (← e, w.size) l) (λ e. h) (λ e. w.finite i l);
        }

    module _ (d : Float) (h : moved_finite T.X j d q.fit ≡ true) where
      moved_finite_lem : eq d #0 ≡ false → (i : ℕ) → i < T.n → finite (at (moved T.X j d q.fit) i) ≡ true
      moved_finite_lem z i l =
          ⊎_elim (λ r. rw r.is at (changed_finite T.X j d q.fit z h r.entry r.inside)) (λ e. rw e (g.fit.finite i l))
          (moved_elsewhere T.X j d q.fit i)

      fit-moved : Fit T.n (moved_by T.X j d q.fit)
      unfolding moved_by
      fit-moved = go (eq d #0) refl
        where
          go : (b : Bool) → eq d #0 ≡ b → Fit T.n (pick b q.fit (moved T.X j d q.fit))
          go true z = g.fit
          go false z = record { finite = moved_finite_lem z; sure = moved_sure T.X j d T.n q.fit g.fit.sure }

    visited-good : fine T q j ≡ true → Good T.n T.p (visited T q j)
    unfolding fine visited
    visited-good f =
        let a = and_both (finite (new_weight T q j)) _ (and_both _ _ f).1 in
        record { weights = weight-stored (new_weight T q j) a.0; fit = fit-moved (new_weight T q j ⊖ at q.weights j) a.1 }

  -- ---- a candidate
  taken-good : T.X.n ≡ T.n → (ws : List ℕ) (w : List Float) → length w ≡ T.p → (q : Point) → better T y (point_of T ws w) q ≡ true
      → Good T.n T.p (point_of T ws w)
  unfolding better point_of
  taken-good e ws w s q b =
      let a = and_both (all_finite w) (all_finite (extrapolated T.X ws w)) (and_both _ _ b).1 in
      let u = subst (λ (n : ℕ). Sures n (extrapolated T.X ws w)) e (extrapolated_sure T.X ws w) in
      record {
        weights = record { size = s; finite = all_finite_lem w T.p s a.0 };
        fit = record { finite = all_finite_lem (extrapolated T.X ws w) T.n u.size a.1; sure = u };
      }

  pub good-kept : T.X.n ≡ T.n → Keeps T y S (Good T.n T.p)
  good-kept e = record {
    start = start-good;
    visited = λ q g j z f. visited-good q g j f;
    taken = λ q g ws w s b. taken-good e ws w s q b;
  }
