-- Finite numbers: zero is one, and the largest of some is one. Assumes nothing.
use mathlib.Core.Path.{◌≡◌, refl}
use mathlib.Core.Bool.{Bool, true, false, false≢true}
use Prim.Native.Nat.{ℕ, zero, suc, ◌<◌}
use native.Mathlib.Omega.{arith}
use lib.Ieee.{Float, nan, inf, fin, lt, is_nan, of_bits}
use Rattle.doubles.specs.Num.{#0, finite, larger, pick, ◌or◌}
use Rattle.doubles.specs.Steps.{steps, largest}

pub zero-finite : finite #0 ≡ true
unfolding finite of_bits
zero-finite = refl

-- the larger is one of the two
larger-keeps : (P : Float → Type 0) (x y : Float) → P x → P y → P (larger x y)
unfolding larger
larger-keeps P x y p q = go (lt x y or is_nan y)
  where
    go : (b : Bool) → P (pick b y x)
    go true = q
    go false = p

-- and not minus infinity
larger-first : (x : Float) → finite x ≡ true → larger (inf true) x ≡ x
unfolding finite larger lt ◌or◌
larger-first nan h = absurd (false≢true h)
larger-first (inf s) h = absurd (false≢true h)
larger-first (fin s m e) h = refl

pub largest-finite : (t : ℕ → Float) (n : ℕ) → 0 < n → ((i : ℕ) → i < n → finite (t i) ≡ true) → finite (largest t n) ≡ true
unfolding steps
largest-finite t zero l h = absurd (omega (arith, l))
largest-finite t (suc zero) l h = rw (larger-first (t 0) (h 0 l)) (h 0 l)
largest-finite t (suc (suc n)) l h =
    larger-keeps (λ (x : Float). finite x ≡ true) (largest t (suc n)) (t (suc n))
    (largest-finite t (suc n) (omega arith) (λ i k. h i (omega arith)))
    (h (suc n) (omega arith))
