-- Where value and threshold are numbers the soft threshold is document 01's, and so is the prox. The idea: a product of finite numbers is a number, if
-- perhaps an infinity, and an infinity times a step that is no zero is still one. Assumes nothing.
use mathlib.Core.Path.{◌≡◌, refl}
use mathlib.Core.Bool.{Bool, true, false, false≢true}
use lib.Dec.{T}
use lib.Ieee.{Float, nan, inf, fin, of_bits, neg, mul, div, lt, le, eq, is_nan}
use Rattle.doubles.specs.Num.{◌⊗◌, #0, #1, finite, pick, ◌or◌}
use Rattle.doubles.specs.Sign.{nonzero}
use Rattle.doubles.specs.Answer.{none}
use Rattle.doubles.proofs.Laws.Choice.{and_both}
use Rattle.doubles.proofs.Laws.Number.{product_number, times_number}
use Rattle.penalties.specs.Soft.{soft01, soft}
use Rattle.penalties.specs.Penalty.{alpha_legal, ratio_legal, penalty_fault, prox_l1, prox_l1_plus_l2, prox}
use Rattle.penalties.specs.Prox01.{threshold_of, prox01}
use Rattle.penalties.specs.declared.separable.Penalty.{Penalty}
use Rattle.penalties.specs.declared.separable.Penalty.TheVariants.{L1, L1PlusL2, MCP}
use Rattle.penalties.proofs.Odd.{alpha_legal_lem, ratio_legal_lem}

-- ---- the soft threshold
pub soft-number : (x t : Float) → is_nan x ≡ false → is_nan t ≡ false → soft x t ≡ soft01 x t
unfolding soft ◌or◌
soft-number x t h k = rw (h, k)

-- a threshold that is no number is answered with NaN
pub soft-nan : (x : Float) → soft x nan ≡ nan
unfolding soft is_nan
soft-nan x = go (is_nan x)
  where
    go : (b : Bool) → pick (b or true) nan (soft01 x nan) ≡ nan
    go true = unfold ◌or◌ in refl
    go false = unfold ◌or◌ in refl

-- and so is a NaN ratio of L1PlusL2, whose threshold it is
pub prox_of-nan : (alpha v step : Float) → prox (L1PlusL2 alpha nan) v step ≡ nan
unfolding prox prox_l1_plus_l2 mul div
prox_of-nan alpha v step = rw (soft-nan v)

-- an infinite threshold is a number: what lies within it still becomes +0.0
pub soft_infinite : soft (inf true) (inf false) ≡ #0
unfolding soft soft01 ◌or◌ is_nan neg lt
soft_infinite = refl

-- ---- the threshold of a prox
alpha_finite : (alpha : Float) → alpha_legal alpha ≡ true → finite alpha ≡ true
unfolding alpha_legal
alpha_finite alpha h = (and_both (finite alpha) (le #0 alpha) h).0

ratio_finite : (r : Float) → ratio_legal r ≡ true → finite r ≡ true
unfolding ratio_legal
ratio_finite r h = let b = and_both (le #0 r) (le r #1) h in go r b.0 b.1
  where
    go : (r : Float) → le #0 r ≡ true → le r #1 ≡ true → finite r ≡ true
    go nan h k = absurd (false≢true (unfold le lt eq of_bits in h))
    go (inf true) h k = absurd (false≢true (unfold le lt eq of_bits in h))
    go (inf false) h k = absurd (false≢true (unfold le lt eq of_bits in k))
    go (fin s m e) h k = unfold finite in refl

module _ (step : Float) (f : finite step ≡ true) (n : T (nonzero step)) where
  pub threshold-number : (p : Penalty) → penalty_fault p ≡ none → is_nan (threshold_of p step) ≡ false
  unfolding threshold_of
  threshold-number (L1 alpha) h = product_number alpha step (alpha_finite alpha (alpha_legal_lem (L1 alpha) h)) f
  threshold-number (L1PlusL2 alpha r) h =
      let a = alpha_finite alpha (alpha_legal_lem (L1PlusL2 alpha r) h) in
      times_number (r ⊗ alpha) step (product_number r alpha (ratio_finite r (ratio_legal_lem alpha r h)) a) f n
  threshold-number (MCP alpha gamma) h = product_number alpha step (alpha_finite alpha (alpha_legal_lem (MCP alpha gamma) h)) f

  -- ---- the prox
  pub prox_as_before : (p : Penalty) → penalty_fault p ≡ none → (v : Float) → is_nan v ≡ false → prox p v step ≡ prox01 p v step
  unfolding prox prox01 prox_l1 prox_l1_plus_l2 threshold_of
  prox_as_before (L1 alpha) h v k = soft-number v _ k (threshold-number (L1 alpha) h)
  prox_as_before (L1PlusL2 alpha r) h v k = rw (soft-number v _ k (threshold-number (L1PlusL2 alpha r) h))
  prox_as_before (MCP alpha gamma) h v k = refl
