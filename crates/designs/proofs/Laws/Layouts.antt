-- What soundness says of a column, and the arms of a match on the layout. Assumes nothing.
use mathlib.Core.Path.{◌≡◌, refl}
use Prim.Native.Nat.{ℕ, suc, ◌+◌, ◌-◌, ◌*◌, ◌^◌, ◌≤◌, ◌<◌}
use native.Mathlib.Nat.{le_trans, mul-le-mul, mul-le-mul_right, suc-mul, lt_of_le_of_lt}
use lib.Dec.{T, lit<, le→leb}
use lib.IntN.{pos}
use native.Mathlib.Omega.{arith}
use mathlib.Core.List.{List}
use lib.ListN.{length, get_or}
use lib.Ieee.{Float, binary64, in_float}
use Rattle.designs.specs.Design.{dense, csc, laid}
use Rattle.designs.specs.Inner.Sound.{Sound, Held}
use Rattle.designs.specs.declared.Layout.{Layout}
use Rattle.designs.specs.declared.Layout.TheVariants.{Dense, Csc}

-- the entries of a dense design can be counted
pub product_small : (n p : ℕ) → n ≤ 65536 → p ≤ 8192 → n * p < 2 ^ 64
product_small n p h k = lt_of_le_of_lt (mul-le-mul h k) (lit< tt)

-- a cell of a dense design lies within it, and so does a row
pub cell : (n p i j len : ℕ) → i < n → j < p → n * p ≤ len → i * p + j < len
cell n p i j len hi hj h =
    let q : suc i * p ≤ len = le_trans (mul-le-mul_right p hi) h in
    omega (arith, suc-mul i p)

pub row_inside : (n p q i len : ℕ) → i < n → q ≡ p → n * p ≤ len → i * q + q ≤ len
row_inside n p q i len hi e h =
    let r : suc i * p ≤ len = le_trans (mul-le-mul_right p hi) h in
    rw e (omega (arith, suc-mul i p))

-- a count of samples, or twice one, is a double
pub counted : (n : ℕ) → n ≤ 65536 → T (in_float binary64 (pos n))
unfolding in_float
counted n h = le→leb n (2 ^ 53) (omega arith)

pub counted_twice : (n : ℕ) → n ≤ 65536 → T (in_float binary64 (pos (2 * n)))
unfolding in_float
counted_twice n h = le→leb (2 * n) (2 ^ 53) (omega arith)

module _ {n p : ℕ} {starts rows : List ℕ} {values : List Float} (S : Sound n p starts rows values) (j : ℕ) (h : j < p) where
  pub column-end : get_or starts j 0 + (get_or starts (j + 1) 0 - get_or starts j 0) ≤ length values
  column-end = omega (arith, S.rising.up j h, S.rising.within (j + 1) (omega arith))

  pub row_below : (k : ℕ) → k < get_or starts (j + 1) 0 - get_or starts j 0 → get_or rows (get_or starts j 0 + k) 0 < n
  row_below k l = S.below (get_or starts j 0 + k) (omega (arith, column-end))

pub samples : (l : Layout) (n p : ℕ) (starts rows : List ℕ) (values : List Float) → (laid l n p starts rows values).n ≡ n
unfolding laid dense csc
samples Dense n p starts rows values = refl
samples Csc n p starts rows values = refl

pub features : (l : Layout) (n p : ℕ) (starts rows : List ℕ) (values : List Float) → (laid l n p starts rows values).p ≡ p
unfolding laid dense csc
features Dense n p starts rows values = refl
features Csc n p starts rows values = refl

-- ---- in an arm of a match on the layout
module _ (l : Layout) (n p : ℕ) (starts rows : List ℕ) (values : List Float) where
  pub held_dense : l ≡ Dense → Held l n p starts rows values → n * p ≤ length values
  unfolding Held
  held_dense e h = rw e at h

  pub held_csc : l ≡ Csc → Held l n p starts rows values → Sound n p starts rows values
  unfolding Held
  held_csc e h = rw e at h

  pub as_dense : l ≡ Dense → laid l n p starts rows values ≡ dense n p values
  unfolding laid
  as_dense e = rw e

  pub as_csc : l ≡ Csc → laid l n p starts rows values ≡ csc n p starts rows values
  unfolding laid
  as_csc e = rw e
