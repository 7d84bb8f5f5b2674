-- A fit that gains columns: its length stays, a place that is no sample of the column keeps its number, and no place comes to hold -0.
-- Assumes nothing.
use mathlib.Core.Path.{◌≡◌, refl, sym, ◌∙◌}
use mathlib.Core.Logic.{◌⊎◌, inl, inr, ⊎_elim}
use mathlib.Core.List.{List}
use Prim.Native.Nat.{ℕ, ◌<◌}
use native.Mathlib.Decide.{ℕ_discrete}
use lib.ListN.{length, get_or, set, length-set}
use lib.Seq.{get_or-set_other}
use lib.Ieee.{Float, nan, binary64}
use lib.Ieee.Fits.{mul-fits}
use Rattle.doubles.specs.Num.{◌⊕◌, ◌⊗◌, #0, at}
use Rattle.doubles.specs.Steps.{tab}
use Rattle.doubles.proofs.Laws.Steps.{length-tab, get_or-tab, set-place}
use Rattle.doubles.proofs.Laws.Ends.{steps-keeps}
use Rattle.doubles.proofs.Laws.Zero.{Sure, sure_zero, sure_add}
use Rattle.designs.specs.Design.{Design, moved, moved_all, extrapolated}

-- n numbers, none of them -0
pub record Sures (n : ℕ) (f : List Float) : Type 0 where
  pub size : length f ≡ n
  pub each : (i : ℕ) → i < n → Sure (at f i)

pub zeros_sure : (n : ℕ) → Sures n (tab (λ i. #0) n)
zeros_sure n = record { size = length-tab (λ i. #0) n; each = λ i l. rw (get_or-tab (λ i. #0) n i nan l) sure_zero }

module _ (X : Design) where
  module _ (j : ℕ) (d : Float) where
    -- one step of `moved`
    abbrev gains : ℕ → List Float → List Float
    gains k f = set f (X.row j k) (at f (X.row j k) ⊕ d ⊗ X.value j k)

    pub moved_length : (f : List Float) → length (moved X j d f) ≡ length f
    unfolding moved
    moved_length f =
        steps-keeps (λ (g : List Float). length g ≡ length f) gains (X.many j) f refl
        (λ k l g e. length-set g (X.row j k) _ ∙ e)

    -- place i is a sample of column j
    pub record Sample (i : ℕ) : Type 0 where
      pub entry : ℕ
      pub inside : entry < X.many j
      pub is : X.row j entry ≡ i

    pub moved_elsewhere : (f : List Float) (i : ℕ) → Sample i ⊎ (at (moved X j d f) i ≡ at f i)
    unfolding moved
    moved_elsewhere f i =
        steps-keeps (λ (g : List Float). Sample i ⊎ (at g i ≡ at f i)) gains (X.many j) f (inr refl)
        (λ k l g q. ⊎_elim inl (λ e. step k l g e (ℕ_discrete i (X.row j k))) q)
      where
        step : (k : ℕ) → k < X.many j → (g : List Float) → at g i ≡ at f i → Dec (i ≡ X.row j k)
            → Sample i ⊎ (at (set g (X.row j k) (at g (X.row j k) ⊕ d ⊗ X.value j k)) i ≡ at f i)
        step k l g e (yes r) = inl (record { entry = k; inside = l; is = sym r })
        step k l g e (no r) = inr (get_or-set_other g (X.row j k) i _ nan r ∙ e)

    pub moved_sure : (n : ℕ) (f : List Float) → Sures n f → Sures n (moved X j d f)
    unfolding moved
    moved_sure n f s =
        steps-keeps (Sures n) gains (X.many j) f s
        (λ k l g h. record {
          size = length-set g (X.row j k) _ ∙ h.size;
          each = λ i m. set-place g (X.row j k) _ nan Sure i (λ e. rw (← e, h.size) m)
              (λ e. sure_add _ _ (rw e at (h.each i m)) (mul-fits binary64 d (X.value j k))) (λ e. h.each i m);
        })

  pub extrapolated_sure : (ws : List ℕ) (w : List Float) → Sures X.n (extrapolated X ws w)
  unfolding extrapolated moved_all
  extrapolated_sure ws w =
      steps-keeps (Sures X.n) (λ k. moved X (get_or ws k 0) (at w (get_or ws k 0))) (length ws) _ (zeros_sure X.n)
      (λ k l g h. moved_sure (get_or ws k 0) (at w (get_or ws k 0)) X.n g h)
