-- What the answers of the solver's inner functions stand for: where a number is not finite, nothing is said of the buffers.
use Rattle.std.specs.Prelude.{Bool, true, false, List, ℕ, length, Float, Result, Ok, Err}
use Rattle.doubles.specs.Num.{at, finite, pick, ◌and◌}
use Rattle.doubles.specs.Steps.{Stage, going, bad, all, largest, tab}
use Rattle.doubles.specs.declared.NotFinite.{NotFinite}
use Rattle.penalties.specs.Penalty.{violation}
use Rattle.penalties.specs.declared.separable.Penalty.{Penalty}
use Rattle.definition.specs.Epoch.{Task, Point, all_known, worst, violations, known_in, worst_in}

abbrev pub worst_of : Result Float NotFinite → Stage Float
worst_of (Ok v) = going v
worst_of (Err e) = bad

-- the largest violation, and all of them
pub record Measured : Type 0 where
  pub largest : Float
  pub violations : List Float

abbrev pub measured_of : Result Float NotFinite → List Float → Stage Measured
measured_of (Ok v) l = going (record { largest = v; violations = l })
measured_of (Err e) l = bad

-- whether what changed is finite
abbrev pub went_well : Result (Unit {0}) NotFinite → Bool
went_well (Ok u) = true
went_well (Err e) = false

-- the point that the visits led to, if they went well
abbrev pub visit_of : Result (Unit {0}) NotFinite → List Float → List Float → Stage Point
visit_of (Ok u) w fit = going (record { weights = w; fit = fit })
visit_of (Err e) w fit = bad

-- ---- one feature
unfoldable pub violation_at : Penalty → Float → Float → Stage Float
violation_at penalty w g = pick (finite g and finite (violation penalty w g)) (going (violation penalty w g)) bad

-- ---- of all features, whose gradients are g
abbrev pub violation_there : Penalty → List Float → List Float → ℕ → Float
violation_there penalty w g j = violation penalty (at w j) (at g j)

abbrev pub known_there : Penalty → List Float → List Float → ℕ → Bool
known_there penalty w g j = finite (at g j) and finite (violation_there penalty w g j)

unfoldable pub finished : Penalty → List Float → List Float → Stage Measured
finished penalty w g =
    pick (all (known_there penalty w g) (length g))
    (going (record { largest = largest (violation_there penalty w g) (length g); violations = tab (violation_there penalty w g) (length g) }))
    bad

unfoldable pub measured : Task → List Float → List Float → Stage Measured
measured T w fit = pick (all_known T w fit) (going (record { largest = worst T w fit; violations = violations T w fit })) bad

unfoldable pub measured_in : Task → List ℕ → List Float → List Float → Stage Float
measured_in T ws w fit = pick (known_in T ws w fit) (going (worst_in T ws w fit)) bad
