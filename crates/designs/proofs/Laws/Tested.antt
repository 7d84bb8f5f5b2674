-- What a tested design's type says is that it is whole. Assumes nothing.
use mathlib.Core.Path.{◌≡◌, refl}
use Prim.Native.Nat.{ℕ, ◌*◌, ◌≤◌}
use mathlib.Core.List.{List}
use lib.ListN.{length}
use lib.Ieee.{Float}
use Rattle.designs.specs.Inner.Sound.{Sound, Held}
use Rattle.designs.specs.declared.Layout.{Layout}
use Rattle.designs.specs.declared.Layout.TheVariants.{Dense, Csc}

module _ (l : Layout) (n p : ℕ) (starts rows : List ℕ) (values : List Float) where
  pub tested_dense : Held l n p starts rows values → l ≡ Dense → n * p ≤ length values
  unfolding Held
  tested_dense h e = rw e at h

  pub tested_csc : Held l n p starts rows values → l ≡ Csc → Sound n p starts rows values
  unfolding Held
  tested_csc h e = rw e at h

-- and back
pub tested_whole : (l : Layout) (n p : ℕ) (starts rows : List ℕ) (values : List Float)
    → (l ≡ Dense → n * p ≤ length values) → (l ≡ Csc → Sound n p starts rows values) → Held l n p starts rows values
unfolding Held
tested_whole Dense n p starts rows values d c = d refl
tested_whole Csc n p starts rows values d c = c refl
