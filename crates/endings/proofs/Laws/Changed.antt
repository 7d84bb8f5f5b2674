-- What the test of the changed fit entries says: where there is a difference, all of them are finite; and where it fails, one of them is not.
-- Assumes nothing.
use mathlib.Core.Path.{◌≡◌}
use mathlib.Core.Bool.{Bool, true, false}
use mathlib.Core.List.{List}
use Prim.Native.Nat.{ℕ, ◌<◌}
use lib.Ieee.{Float, eq}
use Rattle.doubles.specs.Num.{#0, at, finite, ◌or◌}
use Rattle.doubles.proofs.Laws.Steps.{all-each}
use Rattle.doubles.proofs.Laws.Ends.{or-fails, neither_holds, Fails, one_fails, all_fail}
use Rattle.designs.specs.Design.{Design, moved, finite_at}
use Rattle.definition.specs.Epoch.{moved_finite}

module _ (X : Design) (j : ℕ) (d : Float) (fit : List Float) where
  -- whether the changed entry at the column's k-th sample is finite
  abbrev pub finite_after : ℕ → Bool
  finite_after k = finite (at (moved X j d fit) (X.row j k))

  pub changed_finite : eq d #0 ≡ false → moved_finite X j d fit ≡ true → (k : ℕ) → k < X.many j → finite_after k ≡ true
  unfolding moved_finite finite_at ◌or◌
  changed_finite z e = all-each finite_after (X.many j) (rw z at e)

  pub changed_broken : eq d #0 ≡ false → (k : ℕ) → k < X.many j → finite_after k ≡ false → moved_finite X j d fit ≡ false
  unfolding moved_finite finite_at
  changed_broken z k l e = neither_holds _ _ z (all_fail finite_after (X.many j) k l e)

  pub broken_changed : moved_finite X j d fit ≡ false → (eq d #0 ≡ false) × Fails finite_after (X.many j)
  unfolding moved_finite finite_at
  broken_changed e = let b = or-fails _ _ e in (b.0, one_fails finite_after (X.many j) b.1)
