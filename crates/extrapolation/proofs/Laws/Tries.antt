-- From what the parts of the step answer to the definitions. Assumes nothing.
use mathlib.Core.Path.{◌≡◌, ap, ◌∙◌}
use mathlib.Core.Bool.{Bool, true, false}
use Prim.Native.Nat.{ℕ, suc, ◌+◌, ◌%◌, ◌≤◌}
use native.Mathlib.Numerals.{add-one}
use mathlib.Core.List.{List}
use lib.ListN.{length, get_or, set}
use lib.Ieee.{Float}
use borrow.Author.Tests.{eq-eqb, ne_eqb}
use Rattle.doubles.specs.Num.{#0}
use Rattle.doubles.specs.Steps.{steps, tab}
use Rattle.doubles.proofs.Laws.Steps.{steps_all}
use Rattle.elimination.specs.Elimination.{Matrix, eliminated, regular, read_off}
use Rattle.designs.specs.Design.{extrapolated}
use Rattle.definition.specs.Epoch.{Task, Point}
use Rattle.definition.specs.Extrapolation as ext
use Rattle.definition.specs.Extrapolation.{Tried, keeps, combined, candidate, coefficients, system, objective_of, better, chosen, candidate_of}
use Rattle.definition.specs.Extrapolation.{extrapolate, from_system, due, tried}
use Rattle.extrapolation.specs.declared.step.Step.{Step}
use Rattle.extrapolation.specs.Inner.Places.{point_with, chosen_by, tried_from, StepReady}

-- all places of the working set written, over zeros
pub candidate-done : (K p : ℕ) (ws : List ℕ) (kept c u w : List Float) (n i : ℕ) → u ≡ tab (λ j. #0) n → n ≡ p
    → w ≡ steps (λ k v. set v (get_or ws k 0) (combined K p kept c k)) i u → i ≤ length ws → length ws ≤ i → w ≡ candidate K p ws kept c
unfolding candidate
candidate-done K p ws kept c u w n i e h q a b =
    let f : ℕ → List Float → List Float = λ k v. set v (get_or ws k 0) (combined K p kept c k) in
    steps_all f (tab (λ j. #0) p) i (length ws) w (q ∙ ap (steps f i) (e ∙ ap (tab (λ j. #0)) h)) a b

-- the choice, from what was found in the scratch
pub tried_from_lem : (T : Task) (y : List Float) (K : ℕ) (ws : List ℕ) (kept z c w₀ fit₀ w new old : List Float) (before : Float) (r : Tried)
    → r ≡ chosen_by T.penalty y before (point_with w new) (point_with old fit₀) → before ≡ objective_of T.penalty y w₀ fit₀
    → new ≡ extrapolated T.X ws w → old ≡ w₀ → w ≡ candidate K T.p ws kept c → c ≡ coefficients K z
    → r ≡ tried_from T y K ws kept z (point_with w₀ fit₀)
unfolding chosen_by tried_from candidate_of chosen better ext.point_of
tried_from_lem T y K ws kept z c w₀ fit₀ w new old before r e eb en eo ew ec = e ∙ rw (eb, en, eo, ew, ec)

-- ---- by the diagonal of the system m that was eliminated
module _ (T : Task) (y : List Float) (K : ℕ) (ws : List ℕ) (k kept : List Float) (s : Point) (a m : Matrix) (b : Bool)
    (ek : k ≡ kept) (ea : a ≡ system K T.p (length ws) k) (em : m ≡ eliminated K a) (eb : b ≡ regular K m) where
  of_system : from_system T y K ws kept s m ≡ extrapolate T y K ws kept s
  unfolding extrapolate
  of_system = rw (em, ea, ek)

  pub from-regular : b ≡ true → (z : List Float) → z ≡ read_off K m → (r : Tried) → r ≡ tried_from T y K ws kept z s → r ≡ extrapolate T y K ws kept s
  unfolding tried_from from_system
  from-regular h z ez r e = e ∙ rw (ez) (rw (← eb, h) at of_system)

  pub from_singular : b ≡ false → keeps s ≡ extrapolate T y K ws kept s
  unfolding from_system
  from_singular h = rw (← eb, h) at of_system

-- ---- whether the step is due
module _ (T : Task) (y : List Float) (K e : ℕ) (ws : List ℕ) (kept : List Float) (s : Point) where
  pub not_last : (e % (K + 1) ≡ K → ⊥) → keeps s ≡ tried T y K e ws kept s
  unfolding tried due
  not_last h = rw (ne_eqb (e % suc K) K (rw add-one at h))

  pub is-due : e % (K + 1) ≡ K → (r : Tried) → r ≡ extrapolate T y K ws kept s → r ≡ tried T y K e ws kept s
  unfolding tried due
  is-due h r q = rw (eq-eqb (e % suc K) K (rw add-one at h)) q

-- a scratch in which a row was written is as ready
pub ready_again : {P : Step} {ws : List ℕ} {w fit l : List Float} (m : List Float) → StepReady P ws w fit l → length m ≡ length l → StepReady P ws w fit m
ready_again m r h = record {
  sized = record {
    weights = r.sized.weights;
    room = h ∙ r.sized.room;
    few = r.sized.few;
    below = r.sized.below;
  };
  fits = r.fits;
}
