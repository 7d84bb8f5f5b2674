-- What the stand-alone call's last test says once it passed: the violations at zero weights are finite. Assumes nothing.
use mathlib.Core.Path.{◌≡◌, refl, sym}
use mathlib.Core.Bool.{Bool, true, false, not, true≢false}
use mathlib.Core.List.{List}
use lib.ListN.{length}
use lib.Ieee.{Float, lt}
use Rattle.doubles.specs.Num.{#0, at, finite, ◌and◌, ◌or◌}
use Rattle.designs.specs.Search.{first_of, mark}
use Rattle.std.specs.Prelude.{None}
use Rattle.designs.proofs.Laws.Search.{first-none, unmarked}
use Rattle.definition.specs.WorkingSet.{is_zero}
use Rattle.worksets.specs.Call.{bad_violation}
use Rattle.selection.specs.Inner.Heap.{Numbers}

good : (z f t : Bool) → (z and (not f or t)) ≡ false → z ≡ true → f ≡ true
unfolding ◌and◌ ◌or◌
good true true t e h = refl
good true false t e h = absurd (true≢false e)
good false f t e h = absurd (true≢false (sym h))

pub numbers_of : (v w : List Float) → first_of (λ j. mark (bad_violation v w j) j) (length w) ≡ None → Numbers v w
unfolding bad_violation
numbers_of v w e = record {
  each = λ j h z.
      let passed = unmarked (bad_violation v w j) j (first-none (λ i. mark (bad_violation v w i) i) (length w) e j h) in
      good (is_zero w j) (finite (at v j)) (lt (at v j) #0) passed z;
}
