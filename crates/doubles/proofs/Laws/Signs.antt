-- Turned signs through sums, signs and lists. Assumes nothing.
use mathlib.Core.Path.{◌≡◌, refl, ap}
use Prim.Native.Nat.{ℕ, zero, suc, ◌<◌}
use native.Mathlib.Nat.{le_refl, le-suc, le_trans}
use mathlib.Core.Bool.{Bool, true, false, false≢true}
use mathlib.Core.List.{List}
use lib.Dec.{T}
use lib.ListN.{length, set}
use lib.Ieee.{Float, nan, inf, fin, binary64, unlike, neg, lt, of_bits}
use Rattle.doubles.specs.Num.{◌⊗◌, #0, #1, at, signum}
use Rattle.doubles.specs.Steps.{steps, sum}
use Rattle.doubles.specs.Sign.{plain, flip, nonzero, Turned, Signs, none, more}
use Rattle.doubles.proofs.Laws.Turn.{neg-neg}
use Rattle.doubles.proofs.Laws.Turned.{turned-refl, turned-add, turned-mul, turned_exact}

pub zero-turned : (s : Bool) → Turned s #0 #0
zero-turned true = record { is = unfold flip plain neg of_bits in refl }
zero-turned false = turned-refl

nan-turned : (s : Bool) → Turned s nan nan
nan-turned true = record { is = unfold flip neg in refl }
nan-turned false = turned-refl

-- a factor that both have
pub turned_scaled : {s : Bool} {x y : Float} (k : Float) → Turned s x y → Turned s (x ⊗ k) (y ⊗ k)
turned_scaled {s} {x} {y} k p = rw (like s) at (turned-mul binary64 p (turned-refl {x = k}))
  where
    like : (s : Bool) → unlike s false ≡ s
    like true = refl
    like false = refl

pub turned_times : {s : Bool} {x y : Float} (k : Float) → Turned s x y → Turned s (k ⊗ x) (k ⊗ y)
turned_times {s} {x} {y} k p = rw (like s) at (turned-mul binary64 (turned-refl {x = k}) p)
  where
    like : (s : Bool) → unlike false s ≡ s
    like true = refl
    like false = refl

signum-flip : (s : Bool) (x : Float) → flip s (signum x) ≡ signum (flip s x)
unfolding signum flip neg
signum-flip false x = refl
signum-flip true nan = refl
signum-flip true (inf true) = neg-neg #1
signum-flip true (inf false) = refl
signum-flip true (fin true m e) = neg-neg #1
signum-flip true (fin false m e) = refl

-- the sign turns, but for a zero's
pub signum-turned : {s : Bool} {x y : Float} → T (nonzero x) → Turned s x y → Turned s (signum x) (signum y)
signum-turned {s} {x} {y} h p = record { is = cc (signum-flip s x, turned_exact h p) }

-- at zero it does not: the sign of 0 is 1, and that of -0 is -1
pub signum_of_zero : Turned false #0 (neg #0) × (Turned false (signum #0) (signum (neg #0)) → ⊥)
unfolding plain flip neg signum lt of_bits
signum_of_zero = (record { is = refl }, λ p. false≢true (ap (λ (x : Float). lt x #0) p.is))

pub sum-turned : {s : Bool} (t t' : ℕ → Float) (n : ℕ) → ((i : ℕ) → i < n → Turned s (t i) (t' i)) → Turned s (sum t n) (sum t' n)
unfolding steps
sum-turned {s} t t' zero h = zero-turned s
sum-turned {s} t t' (suc n) h = turned-add binary64 (sum-turned t t' n (λ i l. h i (le_trans l (le-suc n)))) (h n (le_refl (suc n)))

-- two sums of equal terms
pub sum_same : (t t' : ℕ → Float) (n : ℕ) → ((i : ℕ) → i < n → t i ≡ t' i) → sum t n ≡ sum t' n
unfolding steps
sum_same t t' zero h = refl
sum_same t t' (suc n) h = rw (sum_same t t' n (λ i l. h i (le_trans l (le-suc n))), h n (le_refl (suc n)))

-- ---- lists
pub signs-length : {s : ℕ → Bool} {xs ys : List Float} → Signs s xs ys → length xs ≡ length ys
signs-length none = refl
signs-length (more p ps) = ap suc (signs-length ps)

pub signs-at : {s : ℕ → Bool} {xs ys : List Float} → Signs s xs ys → (k : ℕ) → Turned (s k) (at xs k) (at ys k)
signs-at {s} none k = nan-turned (s k)
signs-at (more p ps) zero = p
signs-at (more p ps) (suc k) = signs-at ps k

pub signs-set : {s : ℕ → Bool} {xs ys : List Float} {a b : Float} → Signs s xs ys → (k : ℕ) → Turned (s k) a b → Signs s (set xs k a) (set ys k b)
signs-set none k q = none
signs-set (more p ps) zero q = more q ps
signs-set (more p ps) (suc k) q = more p (signs-set ps k q)
