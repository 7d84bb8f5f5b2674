-- Turned signs (demand 3): "a zero's own sign disregarded".
use Rattle.std.specs.Prelude.{◌≡◌, ℕ, zero, suc, Bool, true, false, List, [], ◌∷◌, Float}
use Rattle.std.specs.Float.{nan, inf, fin}
use Rattle.std.specs.Float.Ieee.{neg}

-- x with a zero's sign forgotten
unfoldable pub plain : Float → Float
plain nan = nan
plain (inf s) = inf s
plain (fin s zero e) = fin false zero e
plain (fin s (suc m) e) = fin s (suc m) e

-- x turned where s is true
unfoldable pub flip : Bool → Float → Float
flip true x = neg x
flip false x = x

-- y is x, turned where s is true, but for a zero's sign
pub record Turned (s : Bool) (x y : Float) : Type 0 where
  pub is : plain (flip s x) ≡ plain y

-- two lists of one length, turned place by place: place k where s k is true
pub data Signs : (ℕ → Bool) → List Float → List Float → Type 0 where
  none : {s : ℕ → Bool} → Signs s [] []
  more : {s : ℕ → Bool} {x y : Float} {xs ys : List Float} → Turned (s 0) x y → Signs (λ (i : ℕ). s (suc i)) xs ys → Signs s (x ∷ xs) (y ∷ ys)

-- whether x is -0
unfoldable pub negzero : Float → Bool
negzero nan = false
negzero (inf s) = false
negzero (fin s zero e) = s
negzero (fin s (suc m) e) = false

-- whether x is neither zero
unfoldable pub nonzero : Float → Bool
nonzero nan = true
nonzero (inf s) = true
nonzero (fin s zero e) = false
nonzero (fin s (suc m) e) = true
