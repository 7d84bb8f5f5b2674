-- Sums and lists of two runs at once: what turns term by term turns as a whole. A sum of products whose factors turn together is the same to the bit,
-- since it is never -0. Assumes nothing.
use mathlib.Core.Path.{◌≡◌, refl}
use mathlib.Core.Bool.{Bool, true, false}
use mathlib.Core.List.{List, [], ◌∷◌, ◌++◌}
use Prim.Native.Nat.{ℕ, zero, suc, ◌<◌}
use native.Mathlib.Omega.{arith}
use lib.ListN.{length}
use lib.Ieee.{Float, binary64, unlike}
use lib.Ieee.Fits.{mul-fits}
use Rattle.doubles.specs.Num.{◌⊗◌, #0, at}
use Rattle.doubles.specs.Steps.{steps, sum, tab}
use Rattle.doubles.specs.Sign.{Turned, Signs, none, more}
use Rattle.doubles.proofs.Laws.Turned.{turned-mul}
use Rattle.doubles.proofs.Laws.Compare.{finite-turned}
use Rattle.doubles.proofs.Laws.Signs.{zero-turned, sum-turned, signs-at, signs-length}
use Rattle.doubles.proofs.Laws.Zero.{sum_never, same_exact}
use Rattle.definition.specs.Extrapolation.{all_finite}
use Rattle.two_runs.proofs.Laws.Loops.{all_same}

-- ---- signs
unlike_self : (a : Bool) → unlike a a ≡ false
unlike_self true = refl
unlike_self false = refl

pub unlike-back : (a t : Bool) → unlike (unlike a t) a ≡ t
unlike-back true true = refl
unlike-back true false = refl
unlike-back false true = refl
unlike-back false false = refl

-- ---- sums
-- of products whose factors turn together, in some terms or in all
pub sum_exact : (s : ℕ → Bool) (a a' b b' : ℕ → Float) (n : ℕ)
    → ((i : ℕ) → i < n → Turned (s i) (a i) (a' i)) → ((i : ℕ) → i < n → Turned (s i) (b i) (b' i))
    → sum (λ i. a i ⊗ b i) n ≡ sum (λ i. a' i ⊗ b' i) n
sum_exact s a a' b b' n p q =
    same_exact
    (sum_never (λ i. a i ⊗ b i) n (λ i l. mul-fits binary64 (a i) (b i)))
    (sum_never (λ i. a' i ⊗ b' i) n (λ i l. mul-fits binary64 (a' i) (b' i)))
    (sum-turned (λ i. a i ⊗ b i) (λ i. a' i ⊗ b' i) n (λ i l. rw (unlike_self (s i)) at (turned-mul binary64 (p i l) (q i l))))

-- ---- lists
pub signs-each : {s : ℕ → Bool} (xs ys : List Float) → length xs ≡ length ys → ((k : ℕ) → k < length xs → Turned (s k) (at xs k) (at ys k))
    → Signs s xs ys
signs-each [] [] e h = none
signs-each [] (y ∷ ys) e h = absurd (omega (arith, e))
signs-each (x ∷ xs) [] e h = absurd (omega (arith, e))
signs-each (x ∷ xs) (y ∷ ys) e h = more (h 0 (omega arith)) (signs-each xs ys (omega arith) (λ k l. h (suc k) (omega arith)))

pub finite-same : {s : ℕ → Bool} {xs xs' : List Float} → Signs s xs xs' → all_finite xs ≡ all_finite xs'
unfolding all_finite
finite-same {s} {xs} {xs'} p = rw (← signs-length p) (all_same _ _ (length xs) (λ i l. finite-turned (signs-at p i)))

-- zeros turn in any way
zeros-last : {s : ℕ → Bool} {xs xs' : List Float} → Signs s xs xs' → Signs s (xs ++ (#0 ∷ [])) (xs' ++ (#0 ∷ []))
zeros-last {s} none = more (zero-turned (s 0)) none
zeros-last (more p ps) = more p (zeros-last ps)

pub signs-zeros : (s : ℕ → Bool) (n : ℕ) → Signs s (tab (λ i. #0) n) (tab (λ i. #0) n)
unfolding steps
signs-zeros s zero = none
signs-zeros s (suc n) = zeros-last (signs-zeros s n)
