-- The gradient for those who cite it shut: it turns with its product and its entry of X'y, and the gradients of all features hold each in its
-- place. Assumes nothing.
use mathlib.Core.Path.{◌≡◌}
use mathlib.Core.Bool.{Bool}
use mathlib.Core.List.{List}
use Prim.Native.Nat.{ℕ, ◌<◌}
use lib.Ieee.{Float, binary64, nan}
use lib.ListN.{length}
use Rattle.doubles.specs.Num.{count, at}
use Rattle.doubles.specs.Sign.{Turned}
use Rattle.doubles.proofs.Laws.Steps.{length-tab, get_or-tab}
use Rattle.doubles.proofs.Laws.Turned.{turned-sub, turned-over}
use Rattle.designs.specs.Design.{Design, dot, gradient_from, gradient, full_gradient}

-- ---- signs
from-turned : {s : Bool} {product product' q q' : Float} (n n' : ℕ) → n ≡ n' → Turned s product product' → Turned s q q'
    → Turned s (gradient_from product q n) (gradient_from product' q' n')
unfolding gradient_from
from-turned n n' e a b = rw (← e) (turned-over binary64 (count n) (turned-sub binary64 a b))

-- two designs of one number of samples, whose products with column j turn
pub gradient-turned : (X Y : Design) (j : ℕ) (fit fit' : List Float) {s : Bool} {q q' : Float} → X.n ≡ Y.n
    → Turned s (dot X j fit) (dot Y j fit') → Turned s q q' → Turned s (gradient X j fit q) (gradient Y j fit' q')
unfolding gradient
gradient-turned X Y j fit fit' e a b = from-turned X.n Y.n e a b

-- ---- of all features
module _ (X : Design) (fit : List Float) (q : ℕ → Float) where
  pub length_gradients : length (full_gradient X fit q) ≡ X.p
  unfolding full_gradient
  length_gradients = length-tab (λ j. gradient X j fit (q j)) X.p

  pub gradients_at : (j : ℕ) → j < X.p → at (full_gradient X fit q) j ≡ gradient X j fit (q j)
  unfolding full_gradient
  gradients_at j h = get_or-tab (λ j. gradient X j fit (q j)) X.p j nan h
