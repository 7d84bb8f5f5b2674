-- A column and the same column turned: products with a column turn, its squares are the same, and a turned difference times a turned column turns as
-- the targets do. Assumes nothing.
use mathlib.Core.Path.{◌≡◌, refl}
use mathlib.Core.Bool.{Bool}
use mathlib.Core.List.{List}
use Prim.Native.Nat.{ℕ, ◌<◌}
use lib.Ieee.{Float, binary64, unlike}
use Rattle.doubles.specs.Sign.{Turned, Signs}
use Rattle.doubles.proofs.Laws.Turned.{turned-add, turned-mul}
use Rattle.doubles.proofs.Laws.Compare.{finite-turned, eq_turned}
use Rattle.doubles.proofs.Laws.Signs.{zero-turned, sum-turned, signs-at, signs-set}
use Rattle.designs.specs.Design.{Design, dense, csc, laid, dot, squares, moved, finite_at}
use Rattle.designs.specs.declared.Layout.{Layout}
use Rattle.designs.specs.declared.Layout.TheVariants.{Dense, Csc}
use Rattle.definition.specs.Epoch.{moved_by, moved_finite}
use Rattle.two_runs.proofs.Laws.Loops.{related, all_same, steps_related}
use Rattle.signs.proofs.Laws.Exact.{unlike-back, sum_exact}

-- X with other values
abbrev pub with_values : Design → (ℕ → ℕ → Float) → Design
with_values X value = record { n = X.n; p = X.p; many = X.many; row = X.row; value = value }

-- two designs of one shape differ in their values alone
pub alike : (l : Layout) (n p : ℕ) (starts rows : List ℕ) (values values' : List Float)
    → laid l n p starts rows values' ≡ with_values (laid l n p starts rows values) (laid l n p starts rows values').value
unfolding laid dense csc
alike Dense n p starts rows values values' = refl
alike Csc n p starts rows values values' = refl

-- ---- one column j that is turned where a is true
module _ (X : Design) (other : ℕ → ℕ → Float) (j : ℕ) (a t : Bool) (h : (k : ℕ) → k < X.many j → Turned a (X.value j k) (other j k)) where
  pub dot-turned : {v v' : List Float} → Signs (λ (i : ℕ). t) v v' → Turned (unlike a t) (dot X j v) (dot (with_values X other) j v')
  unfolding dot
  dot-turned {v} {v'} q = sum-turned _ _ (X.many j) (λ k l. turned-mul binary64 (h k l) (signs-at q (X.row j k)))

  pub squares-same : squares X j ≡ squares (with_values X other) j
  unfolding squares
  squares-same = sum_exact (λ (k : ℕ). a) (X.value j) (other j) (X.value j) (other j) (X.many j) h h

  pub moved-turned : {d d' : Float} {v v' : List Float} → Turned (unlike a t) d d' → Signs (λ (i : ℕ). t) v v'
      → Signs (λ (i : ℕ). t) (moved X j d v) (moved (with_values X other) j d' v')
  unfolding moved
  moved-turned {d} {d'} {v} {v'} q p =
      steps_related (λ (k : ℕ). Signs (λ (i : ℕ). t)) _ _ (X.many j) v v' p
      (λ k l f f' r. signs-set r (X.row j k) (turned-add binary64 (signs-at r (X.row j k)) (rw (unlike-back a t) at (turned-mul binary64 q (h k l)))))

  pub moved_by-turned : {d d' : Float} {v v' : List Float} → Turned (unlike a t) d d' → Signs (λ (i : ℕ). t) v v'
      → Signs (λ (i : ℕ). t) (moved_by X j d v) (moved_by (with_values X other) j d' v')
  unfolding moved_by
  moved_by-turned q p = related (Signs (λ (i : ℕ). t)) (eq_turned q (zero-turned (unlike a t))) (λ e. p) (λ e. moved-turned q p)

  pub moved_finite-same : {d d' : Float} {v v' : List Float} → Turned (unlike a t) d d' → Signs (λ (i : ℕ). t) v v'
      → moved_finite X j d v ≡ moved_finite (with_values X other) j d' v'
  unfolding moved_finite finite_at
  moved_finite-same q p =
      rw (eq_turned q (zero-turned (unlike a t)), all_same _ _ (X.many j) (λ k l. finite-turned (signs-at (moved-turned q p) (X.row j k))))
