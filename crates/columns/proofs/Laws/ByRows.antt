-- The extrapolated fit of a dense design row by row: each sample adds the features in their order, so the bits are the same. Assumes nothing.
use mathlib.Core.Path.{◌≡◌, refl, ap, ◌∙◌}
use Prim.Native.Nat.{ℕ, zero, suc, ◌+◌, ◌*◌, ◌≤◌}
use native.Mathlib.Nat.{le_refl}
use native.Mathlib.Numerals.{add-one}
use native.Mathlib.Omega.{arith}
use mathlib.Core.List.{List, ◌++◌}
use lib.ListN.{length, get_or, set, drop}
use lib.Ieee.{Float, nan}
use Rattle.doubles.specs.Num.{◌⊕◌, ◌⊗◌, #0, at}
use Rattle.doubles.specs.Steps.{sum, tab, steps}
use Rattle.doubles.proofs.Laws.Steps.{tab-none, tab_here, tab-more, tab-all, length-tab, get_or-tab, tab-same}
use Rattle.designs.specs.Design.{Design, dense, moved, moved_all, extrapolated}
use Rattle.columns.specs.Inner.RowFit.{row_fit}

-- a pass that changes each place by itself is a table
module _ (h : ℕ → Float → Float) (l : List Float) where
  pass : (k : ℕ) → k ≤ length l → steps (λ i f. set f i (h i (at f i))) k l ≡ tab (λ i. h i (at l i)) k ++ drop k l
  unfolding steps
  pass zero q = tab-none (λ i. h i (at l i)) l
  pass (suc k) q =
      let m = steps (λ i f. set f i (h i (at f i))) k l in
      let e : m ≡ tab (λ i. h i (at l i)) k ++ drop k l = pass k (omega arith) in
      rw add-one at (tab-more (λ i. h i (at l i)) l m k e (h k (at m k)) q (ap (h k) (tab_here (λ i. h i (at l i)) l m k e nan q)))

  pass_all : (n : ℕ) → length l ≡ n → steps (λ i f. set f i (h i (at f i))) n l ≡ tab (λ i. h i (at l i)) n
  pass_all n q = tab-all (λ i. h i (at l i)) l (steps (λ i f. set f i (h i (at f i))) n l) n (pass n (omega arith)) n q (le_refl n) (le_refl n)

moved-dense : (n p : ℕ) (xs : List Float) (j : ℕ) (d : Float) (g : ℕ → Float)
    → moved (dense n p xs) j d (tab g n) ≡ tab (λ i. g i ⊕ d ⊗ at xs (i * p + j)) n
unfolding moved dense
moved-dense n p xs j d g =
    pass_all (λ i x. x ⊕ d ⊗ at xs (i * p + j)) (tab g n) n (length-tab g n)
    ∙ tab-same (λ i. at (tab g n) i ⊕ d ⊗ at xs (i * p + j)) (λ i. g i ⊕ d ⊗ at xs (i * p + j)) n
    (λ i q. ap (λ (x : Float). x ⊕ d ⊗ at xs (i * p + j)) (get_or-tab g n i nan q))

prefix : (n p : ℕ) (xs : List Float) (ws : List ℕ) (w : List Float) (k : ℕ)
    → steps (λ k. moved (dense n p xs) (get_or ws k 0) (at w (get_or ws k 0))) k (tab (λ i. #0) n)
    ≡ tab (λ i. sum (λ k. at w (get_or ws k 0) ⊗ at xs (i * p + get_or ws k 0)) k) n
unfolding steps
prefix n p xs ws w zero = refl
prefix n p xs ws w (suc k) =
    ap (moved (dense n p xs) (get_or ws k 0) (at w (get_or ws k 0))) (prefix n p xs ws w k)
    ∙ moved-dense n p xs (get_or ws k 0) (at w (get_or ws k 0)) (λ i. sum (λ k. at w (get_or ws k 0) ⊗ at xs (i * p + get_or ws k 0)) k)

pub by_rows : (n p : ℕ) (xs : List Float) (ws : List ℕ) (w : List Float)
    → extrapolated (dense n p xs) ws w ≡ tab (λ i. row_fit xs ws w (i * p)) n
unfolding extrapolated moved_all row_fit dense
by_rows n p xs ws w = prefix n p xs ws w (length ws)

-- a dense design by the lengths of its buffers
pub dense-sized : {m n q p : ℕ} → m ≡ n → q ≡ p → (xs : List Float) → dense m q xs ≡ dense n p xs
dense-sized hn hp xs = rw (hn, hp)

-- the fit of a list of features, from a list of zeros
pub from-zeros : (X : Design) (m : ℕ) (ws : List ℕ) (w a r : List Float) → m ≡ X.n → a ≡ tab (λ i. #0) m → r ≡ moved_all X ws w a → r ≡ extrapolated X ws w
unfolding extrapolated
from-zeros X m ws w a r h e q = q ∙ rw (e, h)
