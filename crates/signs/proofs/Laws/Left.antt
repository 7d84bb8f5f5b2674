-- What two calls leave: a run that is done has p weights and n fit entries, by the law of one run, so these are what stands at the front of the lent
-- ones, and they turn; a run that is given up leaves zeros. Assumes nothing.
use mathlib.Core.Path.{◌≡◌, refl, sym, ◌∙◌}
use mathlib.Core.Bool.{Bool, true, false, false≢true}
use mathlib.Core.List.{List}
use Prim.Native.Nat.{ℕ}
use lib.ListN.{length, length-set}
use lib.Ieee.{Float, unlike, eq}
use Rattle.doubles.specs.Num.{#0, pick}
use Rattle.doubles.specs.Sign.{Signs}
use Rattle.doubles.proofs.Laws.Signs.{signs-at, signs-length}
use Rattle.doubles.proofs.Laws.Steps.{length-tab}
use Rattle.designs.specs.Design.{Design, moved}
use Rattle.designs.specs.declared.Shape.{Shape}
use Rattle.designs.proofs.Laws.Moved.{moved_length, extrapolated_sure}
use Rattle.definition.specs.Epoch.{Task, Point, moved_by, visited}
use Rattle.definition.specs.Extrapolation.{point_of}
use Rattle.definition.specs.Run.{State}
use Rattle.definition.specs.Call.{Lent, End, done, solved, filled, buffers}
use Rattle.definition.specs.declared.Settings.{Settings}
use Rattle.definition.proofs.Laws.Ends.{begun}
use Rattle.definition.proofs.Laws.Left.{left-weight, left-fit}
use Rattle.two_runs.specs.Stages.{Ends, both-untouched, both-given_up, both-done}
use Rattle.two_runs.proofs.OneRun.{Keeps, solved-keeps}
use Rattle.signs.specs.Turning.{SameRun, SameLeft}
use Rattle.signs.proofs.Laws.Exact.{signs-zeros}

-- ---- p weights and n fit entries
pub record Sized (n p : ℕ) (q : Point) : Type 0 where
  pub weights : length q.weights ≡ p
  pub fit : length q.fit ≡ n

moved_by-length : (X : Design) (j : ℕ) (d : Float) (f : List Float) → length (moved_by X j d f) ≡ length f
unfolding moved_by
moved_by-length X j d f = go (eq d #0)
  where
    go : (b : Bool) → length (pick b f (moved X j d f)) ≡ length f
    go true = refl
    go false = moved_length X j d f

module _ (T : Task) (y : List Float) (S : Settings) (same : T.X.n ≡ T.n) where
  sizes-kept : Keeps T y S (Sized T.n T.p)
  unfolding visited point_of
  sizes-kept = record {
    start = record { weights = length-tab (λ j. #0) T.p; fit = length-tab (λ i. #0) T.n };
    visited = λ q h j z f. record { weights = length-set q.weights j _ ∙ h.weights; fit = moved_by-length T.X j _ q.fit ∙ h.fit };
    taken = λ q h ws w e b. record { weights = e; fit = (extrapolated_sure T.X ws w).size ∙ same };
  }

  pub solved-sized : (s : State) → solved T y S ≡ done s → Sized T.n T.p s.inner.point
  solved-sized = solved-keeps T y S (Sized T.n T.p) sizes-kept

-- ---- two points' weights and fit, put at the front of the same buffers
module _ (c : ℕ → Bool) (t : Bool) (s : Shape) (S : Settings) (b : Lent) where
  filled-turned : (w w' fit fit' : List Float) → length w ≡ s.p → length fit ≡ s.n → Signs (λ (j : ℕ). unlike (c j) t) w w'
      → Signs (λ (i : ℕ). t) fit fit' → SameLeft c t s (filled s S b w fit) (filled s S b w' fit')
  filled-turned w w' fit fit' p n u v = record {
    weights = λ j l. rw (left-weight s S b w fit p j l, left-weight s S b w' fit' (sym (signs-length u) ∙ p) j l) (signs-at u j);
    fit = λ i l. rw (left-fit s S b w fit n i l, left-fit s S b w' fit' (sym (signs-length v) ∙ n) i l) (signs-at v i);
  }

  pub buffers-turned : (e e' : End) → begun e ≡ true → ((q : State) → e ≡ done q → Sized s.n s.p q.inner.point) → Ends (SameRun c t S) e e'
      → SameLeft c t s (buffers s S b e) (buffers s S b e')
  buffers-turned _ _ a h both-untouched = absurd (false≢true a)
  buffers-turned _ _ a h (both-done u) = filled-turned _ _ _ _ (h _ refl).weights (h _ refl).fit u.weights u.fit
  buffers-turned _ _ a h both-given_up =
      filled-turned _ _ _ _ (length-tab (λ j. #0) s.p) (length-tab (λ i. #0) s.n) (signs-zeros _ s.p) (signs-zeros _ s.n)
