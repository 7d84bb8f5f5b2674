-- A dense column has every sample, so the test of what it changed is that of the whole fit. Assumes nothing.
use mathlib.Core.Path.{◌≡◌, ◌∙◌}
use mathlib.Core.Bool.{Bool}
use mathlib.Core.List.{List}
use Prim.Native.Nat.{ℕ}
use lib.Ieee.{Float}
use lib.ListN.{length}
use Rattle.doubles.specs.Num.{at, finite}
use Rattle.doubles.specs.Steps.{all}
use Rattle.designs.specs.Design.{dense, laid, finite_at}
use Rattle.designs.specs.declared.Layout.{Layout}
use Rattle.designs.specs.declared.Layout.TheVariants.{Dense}
use Rattle.designs.proofs.Laws.Layouts.{as_dense}

pub dense-finite : (l : Layout) (n p : ℕ) (starts rows : List ℕ) (values : List Float) (j : ℕ) (fit : List Float) (r : Bool) → l ≡ Dense → length fit ≡ n
    → r ≡ all (λ i. finite (at fit i)) (length fit) → r ≡ finite_at (laid l n p starts rows values) j fit
unfolding finite_at dense
dense-finite l n p starts rows values j fit r h k e = e ∙ rw (as_dense l n p starts rows values h, k)
