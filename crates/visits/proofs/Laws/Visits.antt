-- One visit, branch by branch, and the visits of an epoch one after the other. Assumes nothing.
use mathlib.Core.Path.{◌≡◌, refl, ◌∙◌}
use mathlib.Core.Bool.{Bool, true, false}
use mathlib.Core.List.{List}
use Prim.Native.Nat.{ℕ, ◌+◌, ◌<◌}
use lib.Ieee.{Float, eq}
use lib.ListN.{length, get_or, set}
use Rattle.std.specs.Prelude.{Result, Ok, Err}
use Rattle.doubles.specs.declared.NotFinite.{NotFinite}
use Rattle.doubles.specs.Num.{◌⊖◌, ◌⊘◌, #0, #1, at, finite, pick, ◌and◌, ◌or◌}
use Rattle.doubles.specs.Steps.{going, bad, upto}
use Rattle.doubles.proofs.Laws.Steps.{upto-more, upto-over}
use Rattle.penalties.specs.Penalty.{prox}
use Rattle.designs.specs.Design.{Design, moved, finite_at}
use Rattle.definition.specs.Epoch.{Task, Point, constant, gradient_of, new_weight, moved_by, moved_finite, fine, visited, visit, visits}
use Rattle.visits.specs.Inner.Reading.{visit_of, went_well}

-- ---- the fit
module _ (X : Design) (j : ℕ) (d : Float) (fit : List Float) where
  pub stays : eq d #0 ≡ true → (true ≡ moved_finite X j d fit) × (fit ≡ moved_by X j d fit)
  unfolding moved_finite moved_by ◌or◌
  stays e = (rw e, rw e)

  pub moves : eq d #0 ≡ false → (m : List Float) (r : Bool) → m ≡ moved X j d fit → r ≡ finite_at X j m
      → (r ≡ moved_finite X j d fit) × (m ≡ moved_by X j d fit)
  unfolding moved_finite moved_by ◌or◌
  moves e m r q h = (rw e (h ∙ rw q), rw e q)

-- ---- one visit
told : (r : Result (Unit {0}) NotFinite) (w fit : List Float) → visit_of r w fit ≡ pick (went_well r) (going (record { weights = w; fit = fit })) bad
told (Ok u) w fit = refl
told (Err e) w fit = refl

-- l is the constant
module _ (T : Task) (j : ℕ) (s : Point) (l : Float) (el : l ≡ constant T j) where
  pub visit_skips : eq l #0 ≡ true → going s ≡ visit T j s
  unfolding visit
  visit_skips e = rw (← el, e)

  -- g is the gradient
  module _ (e : eq l #0 ≡ false) (g : Float) (eg : g ≡ gradient_of T s.fit j) (a : Bool) (ea : a ≡ finite g) where
    pub bad-gradient : a ≡ false → bad ≡ visit T j s
    unfolding visit fine ◌and◌
    bad-gradient h = rw (← el, e, ← eg, ← ea, h)

    -- which is finite, o is the weight, and n the new one
    module _ (h : a ≡ true) (o : Float) (eo : o ≡ at s.weights j) (n : Float) (en : n ≡ prox T.penalty (o ⊖ g ⊘ l) (#1 ⊘ l))
        (b : Bool) (eb : b ≡ finite n) where
      is-new : n ≡ new_weight T s j
      unfolding new_weight
      is-new = en ∙ rw (eo, eg, el)

      pub bad-weight : b ≡ false → bad ≡ visit T j s
      unfolding visit fine ◌and◌
      bad-weight k = rw (← el, e, ← eg, ← ea, h, ← is-new, ← eb, k)

      -- which is finite too; w are the weights, and m is the fit
      pub visit_moves : b ≡ true → (r : Result (Unit {0}) NotFinite) (w m : List Float) → w ≡ set s.weights j n
          → (went_well r ≡ moved_finite T.X j (n ⊖ o) s.fit) × (m ≡ moved_by T.X j (n ⊖ o) s.fit) → visit_of r w m ≡ visit T j s
      unfolding visit fine visited ◌and◌
      visit_moves k r w m ew q = told r w m ∙ rw (← el, e, ← eg, ← ea, h, ← is-new, ← eb, k, ew, q.0, q.1, eo)

-- ---- one more visit of the epoch, and the first that fails
module _ (T : Task) (ws : List ℕ) (s₀ : Point) (i : ℕ) (s : Point) (e : going s ≡ upto (λ k. visit T (get_or ws k 0)) i s₀) where
  pub visits-more : (t : Point) → going t ≡ visit T (get_or ws i 0) s → going t ≡ upto (λ k. visit T (get_or ws k 0)) (i + 1) s₀
  visits-more t q = upto-more _ _ i s t e q

  pub visits_broken : bad ≡ visit T (get_or ws i 0) s → i < length ws → bad ≡ visits T ws s₀
  unfolding visits
  visits_broken q h = upto-over _ _ i (length ws) s bad e q refl h
