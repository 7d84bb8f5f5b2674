-- What is prepared: how much it is and where it stands; that every constant is a double, and that none is below zero. Assumes nothing.
use mathlib.Core.Path.{◌≡◌, refl, ◌∙◌}
use mathlib.Core.Bool.{true, false, true≢false}
use mathlib.Core.List.{List}
use Prim.Native.Nat.{ℕ, zero, suc, ◌+◌, ◌*◌, ◌≤◌, ◌<◌}
use native.Mathlib.Nat.{mul-pos, lt_irrefl}
use native.Mathlib.Omega.{arith}
use lib.ListN.{length, length-append, get_or-append}
use lib.Seq.{get_or-append-add}
use lib.Dec.{T}
use lib.Ieee.{Float, nan, inf, fin, binary64, up, down, lt, eq, fits, of_int}
use lib.Ieee.Exact.{HasValue}
use lib.Ieee.Back.{round_whole}
use lib.Ieee.Fits.{down_pos, div-fits}
use Rattle.doubles.specs.Num.{◌⊗◌, #0, count, at}
use Rattle.doubles.specs.Steps.{tab}
use Rattle.doubles.specs.Sign.{nonzero}
use Rattle.doubles.proofs.Laws.Turn.{zero₂}
use Rattle.doubles.proofs.Laws.Order.{pos-lt, eq-zero}
use Rattle.doubles.proofs.Laws.Below.{sum-not-below, square_not-below, div-not-below}
use Rattle.doubles.proofs.Laws.Steps.{length-tab, get_or-tab}
use Rattle.designs.specs.Design.{Design, dot, squares, lipschitz, dots, prepared}

-- ---- how many there are
pub length-prepared : (X : Design) (y : List Float) → length (prepared X y) ≡ X.p + X.p
unfolding prepared dots
length-prepared X y =
    length-append (tab (lipschitz X) X.p) (tab (λ j. dot X j y) X.p) ∙ rw (length-tab (lipschitz X) X.p, length-tab (λ j. dot X j y) X.p)

-- ---- where they stand
module _ (X : Design) (y : List Float) (j : ℕ) (l : j < X.p) where
  pub constant-at : at (prepared X y) j ≡ lipschitz X j
  unfolding prepared
  constant-at = get_or-append (tab (lipschitz X) X.p) (dots X y) nan j (rw length-tab l) ∙ get_or-tab (lipschitz X) X.p j nan l

  pub product_at : at (prepared X y) (X.p + j) ≡ dot X j y
  unfolding prepared dots
  product_at =
      (rw (length-tab (lipschitz X) X.p) at (get_or-append-add (tab (lipschitz X) X.p) (dots X y) j nan)) ∙ get_or-tab (λ i. dot X i y) X.p j nan l

  pub constant-fits : T (fits binary64 (at (prepared X y) j))
  unfolding lipschitz
  constant-fits = rw constant-at (div-fits binary64 (squares X j) (count X.n))

-- ---- a count of samples is above zero
above_zero : (n : ℕ) (x : Float) → 0 < n → HasValue x false n 1 → (lt x #0 ≡ false) × (eq x #0 ≡ false)
above_zero n nan h v = absurd v
above_zero n (inf s) h v = absurd v
above_zero n (fin true m e) h v = absurd (true≢false v.0)
above_zero n (fin false zero e) h v = absurd (none (n * down e) (mul-pos h (down_pos e)) v.1)
  where
    none : (a : ℕ) → 0 < a → 0 * up e * 1 ≡ a → ⊥
    none a p q = lt_irrefl 0 (rw (← q, zero₂) at p)
above_zero n (fin false (suc m) e) h v = (pos-lt (suc m) e, eq-zero (fin false (suc m) e) ∙ unfold nonzero in refl)

count-above : (n : ℕ) → 1 ≤ n → n ≤ 65536 → (lt (count n) #0 ≡ false) × (eq (count n) #0 ≡ false)
unfolding of_int
count-above n a b = above_zero n (count n) a (round_whole binary64 false n (omega arith))

pub lipschitz-not-below : (X : Design) (j : ℕ) → 1 ≤ X.n → X.n ≤ 65536 → lt (lipschitz X j) #0 ≡ false
unfolding lipschitz squares
lipschitz-not-below X j a b =
    let c = count-above X.n a b in
    div-not-below (squares X j) (count X.n)
    (sum-not-below (λ k. X.value j k ⊗ X.value j k) (X.many j) (λ k l. square_not-below (X.value j k)))
    c.0 c.1
