-- A pass over the rows of a dense design, with a running sum for each feature. The idea, for any term of a row and a feature: after i rows each
-- sum holds its first i terms, so after all of them each column is what it is by itself. Assumes nothing.
use mathlib.Core.Path.{◌≡◌, sym, ap, ◌∙◌}
use Prim.Native.Nat.{ℕ, ◌+◌, ◌-◌, ◌≤◌, ◌<◌}
use borrow.Rule.Slice.PartMut.{put_mid}
use native.Mathlib.Nat.{le_antisymm, le_of_eq}
use native.Mathlib.Omega.{arith}
use mathlib.Core.List.{List, ◌++◌, append-nil}
use lib.ListN.{length, drop, length-append, length-drop, drop_of_length-le}
use lib.Seq.{take_at, drop_at}
use lib.Ieee.{Float, nan}
use Rattle.doubles.specs.Num.{◌⊕◌, ◌⊘◌, #0, count, at, abs, larger}
use Rattle.doubles.specs.Steps.{sum, tab, steps, largest_from}
use Rattle.doubles.proofs.Laws.Steps.{steps-more, steps-same, length-tab, get_or-tab, tab-same}
use Rattle.designs.specs.Design.{Design, dense, alpha_max, dot, squares, lipschitz, dots, prepared, gradient_from, gradient, full_gradient}

-- the sums of all features over the first i rows
unfoldable pub sums : (ℕ → ℕ → Float) → ℕ → ℕ → List Float
sums t p i = tab (λ j. sum (λ k. t k j) i) p

module _ (t : ℕ → ℕ → Float) (p : ℕ) where
  pub sums_none : (b : List Float) (q : ℕ) → b ≡ tab (λ j. #0) q → p ≡ q → b ≡ sums t p 0
  unfolding steps sums
  sums_none b q e h = rw h e

  -- one row more
  pub sums_more : (b r : List Float) (i : ℕ) → b ≡ sums t p i → r ≡ tab (λ j. at b j ⊕ t i j) p → r ≡ sums t p (i + 1)
  unfolding sums
  sums_more b r i e q =
      q
      ∙ tab-same (λ j. at b j ⊕ t i j) (λ j. sum (λ k. t k j) (i + 1)) p
      (λ j h. steps-more (λ k s. s ⊕ t k j) #0 i (at b j) (ap (λ (l : List Float). at l j) e ∙ get_or-tab (λ j. sum (λ k. t k j) i) p j nan h))

-- the same by the length of the buffer, on which a row's place depends
pub sums_turn : (T : ℕ → ℕ → ℕ → Float) (p : ℕ) (b r : List Float) (i : ℕ) → b ≡ sums (T p) p i → length b ≡ p
    → r ≡ tab (λ j. at b j ⊕ T (length b) i j) (length b) → r ≡ sums (T p) p (i + 1)
sums_turn T p b r i e h q = sums_more (T p) p b r i e (rw h at q)

-- all rows
pub sums_all : (T : ℕ → ℕ → ℕ → Float) (p q : ℕ) (b : List Float) (i n : ℕ) → b ≡ sums (T p) p i → p ≡ q → i ≤ n → n ≤ i → b ≡ tab (λ j. sum (λ k. T q k j) n) q
unfolding sums
sums_all T p q b i n e h l g = rw (← h, ← le_antisymm l g) e

-- ---- tables by the length of the buffer
pub tab-sized : {A : Type 0} (f : ℕ → A) {m p : ℕ} {b : List A} → m ≡ p → b ≡ tab f m → b ≡ tab f p
tab-sized f h e = e ∙ ap (tab f) h

pub squares-sized : (n : ℕ) (xs : List Float) {m p : ℕ} {b : List Float} → m ≡ p → b ≡ tab (squares (dense n m xs)) m → b ≡ tab (squares (dense n p xs)) p
squares-sized n xs h e = e ∙ ap (λ (k : ℕ). tab (squares (dense n k xs)) k) h

-- ---- tables over all features of a design with n samples and p features
module _ (X : Design) (n p : ℕ) (hn : X.n ≡ n) (hp : X.p ≡ p) where
  pub as_dots : (v b : List Float) (m : ℕ) → m ≡ p → b ≡ tab (λ j. dot X j v) m → b ≡ dots X v
  unfolding dots
  as_dots v b m h e = tab-sized (λ j. dot X j v) (h ∙ sym hp) e

  -- the products, and then each its gradient
  pub dots_grad : (m : ℕ) (v b r : List Float) (q : ℕ → Float) → m ≡ p → b ≡ dots X v → r ≡ tab (λ j. gradient_from (at b j) (q j) n) m
      → r ≡ full_gradient X v q
  unfolding full_gradient gradient dots
  dots_grad m v b r q hm e k =
      k
      ∙ ap (tab (λ j. gradient_from (at b j) (q j) n)) (hm ∙ sym hp)
      ∙ tab-same (λ j. gradient_from (at b j) (q j) n) (λ j. gradient_from (dot X j v) (q j) X.n) X.p
      (λ j h. ap (λ (x : Float). gradient_from x (q j) n) (ap (λ (l : List Float). at l j) e ∙ get_or-tab (λ j. dot X j v) X.p j nan h)
      ∙ ap (gradient_from (dot X j v) (q j)) (sym hn))

  -- the squares, and then each its constant
  pub squares-constants : (m : ℕ) (b r : List Float) → m ≡ p → b ≡ tab (squares X) p → r ≡ tab (λ j. at b j ⊘ count n) m → r ≡ tab (lipschitz X) p
  unfolding lipschitz
  squares-constants m b r hm e k =
      let square : (j : ℕ) → j < p → at b j ≡ squares X j = λ j h. ap (λ (l : List Float). at l j) e ∙ get_or-tab (squares X) p j nan h in
      k
      ∙ ap (tab (λ j. at b j ⊘ count n)) hm
      ∙ tab-same (λ j. at b j ⊘ count n) (λ j. squares X j ⊘ count X.n) p
      (λ j h. ap (λ (x : Float). x ⊘ count n) (square j h) ∙ ap (λ (i : ℕ). squares X j ⊘ count i) (sym hn))

  -- constants lent as the first half of a buffer of 2p places, and then products as the second
  pub halves : (y a d l : List Float) → a ≡ tab (lipschitz X) p → d ≡ dots X y → length l ≡ p + p
      → put_mid p (length (a ++ drop p l) - p) (a ++ drop p l) d ≡ prepared X y
  unfolding prepared dots
  halves y a d l ea ed hl =
      let la : length a ≡ p = ap length ea ∙ length-tab (lipschitz X) p in
      let ll : length (drop p l) ≡ p = length-drop p l ∙ omega arith in
      let k : length (a ++ drop p l) - p ≡ p = rw (length-append a (drop p l), la, ll) (omega arith) in
      rw (take_at a (drop p l) p la, drop_at a (drop p l) p la, k, drop_of_length-le (drop p l) {i = p} (le_of_eq ll), append-nil)
      (ap (λ (z : List Float). z ++ d) (ea ∙ ap (tab (lipschitz X)) (sym hp)) ∙ ap (λ (z : List Float). tab (lipschitz X) X.p ++ z) ed)

  -- the largest of the products
  pub largest-dots : (m : ℕ) (y b : List Float) (v : Float) → length b ≡ m → m ≡ p → b ≡ dots X y
      → v ≡ largest_from #0 (λ j. abs (at b j)) (length b) → v ⊘ count n ≡ alpha_max X y
  unfolding alpha_max dots
  largest-dots m y b v hb hm e k =
      let same : largest_from #0 (λ j. abs (at b j)) X.p ≡ largest_from #0 (λ j. abs (dot X j y)) X.p =
      steps-same (λ i v. larger v (abs (at b i))) (λ i v. larger v (abs (dot X i y))) X.p #0
      (λ j h x. ap (λ (z : Float). larger x (abs z)) (ap (λ (l : List Float). at l j) e ∙ get_or-tab (λ j. dot X j y) X.p j nan h)) in
      ap (λ (z : Float). z ⊘ count n) (k ∙ ap (largest_from #0 (λ j. abs (at b j))) (hb ∙ hm ∙ sym hp) ∙ same)
      ∙ ap (λ (i : ℕ). largest_from #0 (λ j. abs (dot X j y)) X.p ⊘ count i) (sym hn)
