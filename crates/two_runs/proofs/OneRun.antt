-- The law of one run, which is the law of two at a run beside itself: what the start of a run has, and every visit and every candidate that is taken
-- keep, each point has that the run comes to. Assumes nothing.
use mathlib.Core.Path.{◌≡◌, refl, sym, ap, ◌∙◌}
use mathlib.Core.Bool.{true, false}
use mathlib.Core.List.{List}
use Prim.Native.Nat.{ℕ, suc, ◌+◌, ◌<◌}
use native.Mathlib.Nat.{le_of_lt}
use native.Mathlib.Omega.{arith}
use lib.ListN.{length, get_or}
use lib.Seq.{ext_get_or}
use lib.Ieee.{Float, nan, eq}
use Rattle.doubles.specs.Num.{#0}
use Rattle.doubles.specs.Steps.{zeros, Stage, going, stopped, bad, upto}
use Rattle.doubles.proofs.Laws.Signs.{sum_same}
use Rattle.definition.specs.Epoch.{Task, Point, constant, fine, visited, visit}
use Rattle.definition.specs.Extrapolation.{U, entry, better, point_of}
use Rattle.definition.specs.Run.{Inner, epoch, State, chosen_set, turn, start, run}
use Rattle.definition.specs.Call.{done, solved}
use Rattle.definition.specs.declared.Settings.{Settings}
use Rattle.definition.proofs.Laws.Ends.{solved-done}
use Rattle.two_runs.specs.Stages.{Stages, both-going, both_stopped, both-bad, Both}
use Rattle.two_runs.specs.Alike.{Pair, Weights, FeatureSet, Rows, Respects, Alike}
use Rattle.two_runs.proofs.Laws.Points.{chosen-fits, visits_so_far}
use Rattle.two_runs.proofs.TwoRuns.{States, epochs_so_far, turns_so_far, two-turns}

-- P is kept from the zeros on: by a visit of a column whose constant is not 0 and whose numbers are finite, and by a candidate that is better
pub record Keeps (T : Task) (y : List Float) (S : Settings) (P : Point → Type 0) : Type 0 where
  pub start : P (record { weights = zeros T.p; fit = zeros T.n })
  pub visited : (q : Point) → P q → (j : ℕ) → eq (constant T j) #0 ≡ false → fine T q j ≡ true → P (visited T q j)
  pub taken : (q : Point) → P q → (ws : List ℕ) (w : List Float) → length w ≡ T.p → better T y (point_of T ws w) q ≡ true → P (point_of T ws w)

-- P holds of the point that a run goes on with, or has stopped at
abbrev Holds : (Point → Type 0) → Stage State → Type 0
Holds P (going s) = P s.inner.point
Holds P (stopped s) = P s.inner.point
Holds P bad = Unit {0}

both_go : {A : Type 0} {G E : A → A → Type 0} {a b : A} → Stages G E (going a) (going b) → G a b
both_go (both-going r) = r

module _ (T : Task) (y : List Float) (S : Settings) (P : Point → Type 0) (K : Keeps T y S P) where
  abbrev itself : Pair
  itself = record {
    n = T.n;
    p = T.p;
    penalty = T.penalty;
    settings = S;
    X = T.X;
    X' = T.X;
    prepared = T.prepared;
    prepared' = T.prepared;
    y = y;
    y' = y;
    weight = λ j x x'. x ≡ x';
    point = λ q q'. (q' ≡ q) × P q;
  }

  weights-same : {w w' : List Float} → Weights itself w w' → w' ≡ w
  weights-same {w} {w'} v = sym (ext_get_or nan w w' (v.size ∙ sym v.size') (λ i l. v.each i (rw v.size at l)))

  entry-same : {ws : List ℕ} {kept kept' : List Float} → Rows itself ws (suc S.depth) kept kept' → (k l : ℕ) → k < S.depth → l < S.depth
      → entry T.p (length ws) kept k l ≡ entry T.p (length ws) kept' k l
  unfolding entry
  entry-same {ws} {kept} {kept'} r k l a b = sum_same _ _ (length ws) (λ i h. rw (step k a i h, step l b i h))
    where
      step : (k : ℕ) → k < S.depth → (i : ℕ) → i < length ws → U T.p kept k i ≡ U T.p kept' k i
      step k a i h = rw (r.each (suc k) (omega arith) i h, r.each k (omega arith) i h)

  respects : Respects itself
  respects = record {
    nothing = λ j l. refl;
    start = (refl, K.start);
    zero = λ j l e. ap (λ (x : Float). eq x #0) e;
    known = λ r j l. rw r.other.0;
    violation = λ r j l. rw r.other.0;
    skipped = λ j l. refl;
    fine = λ r j l z. rw r.other.0;
    weight = λ r j l z f. rw r.other.0;
    visited = λ {q} r j l z f. rw r.other.0 (refl, K.visited q r.other.1 j z f);
    entry = λ on r. entry-same r;
    combined = λ on j l c x x' m h. sum_same _ _ m (λ k o. rw (h k o));
    better = λ on C v r. rw (r.other.0, weights-same v);
    taken = λ on {ws} C {w} v {q} r b. rw (weights-same v) (refl, K.taken q r.other.1 ws w v.size b);
  }

  held : {r r' : Stage State} → Both (Alike itself) r r' → Holds P r
  held (both-going u) = u.points.other.1
  held (both_stopped u) = u.points.other.1
  held both-bad = tt

  -- at the beginning of every turn
  pub reached-keeps : (t : ℕ) (s : State) → upto (turn T y S) t (start T S) ≡ going s → P s.inner.point
  reached-keeps t s e = rw e at (held (two-turns itself respects t))

  -- at every visit, which is of a feature: the turn at s, its epoch at i, and the visit at q
  module _ (t : ℕ) (s : State) (turned : upto (turn T y S) t (start T S) ≡ going s) where
    abbrev ws : List ℕ
    ws = chosen_set T S s.inner.point

    states : States itself s s
    states = both_go (rw turned at (turns_so_far itself respects t))

    features : FeatureSet T.p ws
    features = chosen-fits itself respects states.inner.points

    pub visit_feature : (place : ℕ) → place < length ws → get_or ws place 0 < T.p
    visit_feature place l = features.each place l

    pub visit-keeps : (v : Float) (e : ℕ) (i : Inner) → upto (epoch T y S ws v) e s.inner ≡ going i
        → (place : ℕ) → place < length ws → (q : Point) → upto (λ k. visit T (get_or ws k 0)) place i.point ≡ going q → P q
    visit-keeps v e i passed place l q visited =
        let under = both_go (rw passed at (epochs_so_far itself respects features v states.inner e)) in
        (both_go (rw visited at (visits_so_far itself respects features under.inners.points place (le_of_lt l)))).other.1

  -- where a solve is done
  pub solved-keeps : (s : State) → solved T y S ≡ done s → P s.inner.point
  unfolding run
  solved-keeps s e = rw (solved-done T y S s e) at (held (two-turns itself respects (S.iterations + 1)))
