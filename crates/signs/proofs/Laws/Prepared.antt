-- What is prepared turns: the constants are the same, for they are sums of squares, and X'y turns with its column and the targets. So both preparations
-- are refused alike, and what they leave turns likewise. Assumes nothing.
use mathlib.Core.Path.{◌≡◌, refl, sym, ap, ◌∙◌}
use mathlib.Core.Bool.{Bool, true, false}
use mathlib.Core.List.{List}
use Prim.Native.Nat.{ℕ, ◌+◌, ◌<◌}
use native.Mathlib.Omega.{arith}
use lib.Ieee.{Float, unlike}
use Rattle.doubles.specs.Num.{◌⊘◌, count, at, pick}
use Rattle.doubles.specs.Steps.{zeros}
use Rattle.doubles.specs.Buffer.{put}
use Rattle.doubles.specs.Sign.{Turned, Signs}
use Rattle.doubles.specs.Answer.{refused, answered, Fault, none, unless, ◌then◌, left}
use Rattle.doubles.proofs.Laws.Compare.{finite-turned}
use Rattle.doubles.proofs.Laws.Ends.{refused≢answered}
use Rattle.designs.specs.Design.{Design, lipschitz, prepared}
use Rattle.designs.specs.Given.{Given, design_of}
use Rattle.designs.specs.Checks.{preparation_fault}
use Rattle.designs.proofs.Laws.Layouts.{features}
use Rattle.designs.proofs.Laws.Preparation.{length-prepared, constant-at, product_at}
use Rattle.definition.specs.Preparation.{usable, all_usable, prepared_of, prepare_call, numbers_left, prepare_left}
use Rattle.definition.proofs.Laws.Prepared.{left-long, left_at, answers}
use Rattle.two_runs.proofs.Laws.Loops.{all_same}
use Rattle.signs.specs.Turning.{with_numbers, Turning, HandedTurning}
use Rattle.signs.proofs.Laws.Columns.{with_values, alike, dot-turned, squares-same}
use Rattle.signs.proofs.Laws.Faults.{preparation-same}

-- ---- two designs
module _ (c : ℕ → Bool) (t : Bool) {y y' : List Float} (sy : Signs (λ (i : ℕ). t) y y') where
  module _ (X : Design) (other : ℕ → ℕ → Float)
      (entries : (j k : ℕ) → j < X.p → k < X.many j → Turned (c j) (X.value j k) (other j k)) where
    abbrev X' : Design
    X' = with_values X other

    constants-same : (j : ℕ) → j < X.p → at (prepared X y) j ≡ at (prepared X' y') j
    constants-same j l = constant-at X y j l ∙ same ∙ sym (constant-at X' y' j l)
      where
        same : lipschitz X j ≡ lipschitz X' j
        same = unfold lipschitz in ap (λ (x : Float). x ⊘ count X.n) (squares-same X other j (c j) t (λ k m. entries j k l m))

    products-turned : (j : ℕ) → j < X.p → Turned (unlike (c j) t) (at (prepared X y) (X.p + j)) (at (prepared X' y') (X.p + j))
    products-turned j l = rw (product_at X y j l, product_at X' y' j l) (dot-turned X other j (c j) t (λ k m. entries j k l m) sy)

    prepared-turned : HandedTurning c t X.p (prepared X y) (prepared X' y')
    prepared-turned = record {
      size = length-prepared X y ∙ sym (length-prepared X' y');
      constants = constants-same;
      products = products-turned;
    }

  -- by any name of the second design and of the number of features
  prepared_of_lem : (p : ℕ) (X X' : Design) (other : ℕ → ℕ → Float) → X.p ≡ p → X' ≡ with_values X other
      → ((j k : ℕ) → j < p → k < X.many j → Turned (c j) (X.value j k) (other j k)) → HandedTurning c t p (prepared X y) (prepared X' y')
  prepared_of_lem p X X' other ep e h = rw (e, ← ep) (prepared-turned X other (rw (← ep) at h))

usable_same : {c : ℕ → Bool} {t : Bool} {p : ℕ} {numbers numbers' : List Float} → HandedTurning c t p numbers numbers'
    → all_usable p numbers ≡ all_usable p numbers'
unfolding all_usable usable
usable_same {p = p} h = all_same _ _ p (λ j l. rw (h.constants j l, finite-turned (h.products j l)))

-- ---- two preparations: the columns need to be turned only where 1 to 6 do not refuse
module _ (g : Given) {c σ : ℕ → Bool} {t : Bool} {values' y' : List Float} (buf : List Float)
    (stored : Signs σ g.values values') (targets : Signs (λ (i : ℕ). t) g.targets y')
    (turns : preparation_fault g buf ≡ none → Turning c t g values' y') where
  abbrev g' : Given
  g' = with_numbers g values' y'

  abbrev p : ℕ
  p = g.shape.p

  tests_same : preparation_fault g buf ≡ preparation_fault g' buf
  tests_same = preparation-same g stored targets buf

  numbers-turned : preparation_fault g buf ≡ none → HandedTurning c t p (prepared_of g) (prepared_of g')
  numbers-turned e =
      let s = g.shape in
      prepared_of_lem c t targets p (design_of g) (design_of g') (design_of g').value (features s.layout s.n p g.starts g.rows g.values)
      (alike s.layout s.n p g.starts g.rows g.values values') (turns e).columns

  pub prepare-same : prepare_call g buf ≡ prepare_call g' buf
  unfolding prepare_call
  prepare-same = rw (← tests_same) (go (preparation_fault g buf) refl)
    where
      go : (f : Fault) → preparation_fault g buf ≡ f → (f then unless (all_usable p (prepared_of g)) 7 none)
          ≡ (f then unless (all_usable p (prepared_of g')) 7 none)
      go (answered u) e = rw (usable_same (numbers-turned e))
      go (refused number place) e = refl

  -- what they leave, where they answer
  pub left-turned : prepare_call g buf ≡ none → HandedTurning c t p (prepare_left g buf) (prepare_left g' buf)
  left-turned e =
      let h = numbers-turned (answers g buf e).0 in
      let e' : prepare_call g' buf ≡ none = sym prepare-same ∙ e in
      record {
        size = left-long g buf e ∙ sym (left-long g' buf e');
        constants = λ j l. rw (left_at g buf e j (omega arith), left_at g' buf e' j (omega arith)) (h.constants j l);
        products = λ j l. rw (left_at g buf e (p + j) (omega arith), left_at g' buf e' (p + j) (omega arith)) (h.products j l);
      }

  -- and where they refuse
  pub left-refused : (number place : ℕ) → prepare_call g buf ≡ refused number place → prepare_left g buf ≡ prepare_left g' buf
  unfolding prepare_call prepare_left numbers_left
  left-refused number place = rw (← tests_same) (go (preparation_fault g buf) refl (all_usable p (prepared_of g)) refl)
    where
      go : (f : Fault) → preparation_fault g buf ≡ f → (u : Bool) → all_usable p (prepared_of g) ≡ u → (f then unless u 7 none) ≡ refused number place
          → left f (put buf 0 (pick u (prepared_of g) (zeros (p + p)))) buf
          ≡ left f (put buf 0 (pick (all_usable p (prepared_of g')) (prepared_of g') (zeros (p + p)))) buf
      go (refused m k) e u v r = refl
      go (answered w) e true v r = absurd (refused≢answered (sym r))
      go (answered w) e false v r = rw (← usable_same (numbers-turned e), v)
