-- The search upward: so far nothing was found. Assumes nothing.
use mathlib.Core.Path.{◌≡◌}
use Prim.Native.Nat.{ℕ}
use mathlib.Core.Bool.{Bool, not}
use mathlib.Core.List.{List}
use lib.Ieee.{Float, lt}
use Rattle.doubles.specs.Num.{#0, at, finite, ◌and◌, ◌or◌}
use Rattle.designs.proofs.Laws.Search.{mark_on, mark_here}
use Rattle.doubles.proofs.Laws.Steps.{steps-none}
use Rattle.worksets.specs.Call.{bad_violation}
use Rattle.definition.specs.WorkingSet.{is_zero}
use Rattle.worksets.proofs.inner.first_bad_violation.Goals as goal

is-bad : (v w : List Float) (j : ℕ) (r : Bool) → r ≡ (is_zero w j and (not (finite (at v j)) or lt (at v j) #0)) → r ≡ bad_violation v w j
unfolding bad_violation
is-bad v w j r e = e

pub loop-j-init : goal.loop-j-init
loop-j-init c = steps-none _ _

pub returns-then-is_bad_violation : goal.returns-then-is_bad_violation
returns-then-is_bad_violation c =
    mark_here (bad_violation c.args.kkt.now c.args.w.now) (λ i. i) _ _ c.loop-j.invariant (is-bad _ _ _ _ c.is_bad_violation.ensures) _
    c.if-is_bad_violation.true c.loop-j-test.true

pub loop-j-preserved : goal.loop-j-preserved
loop-j-preserved c =
    mark_on (bad_violation c.args.kkt.now c.args.w.now) (λ i. i) _ _ c.loop-j.invariant (is-bad _ _ _ _ c.is_bad_violation.ensures)
    c.if-is_bad_violation.false
