-- Request 5: "preparing and then solving": the preparation, and where it answered, the solve with the numbers that it left.
use Rattle.std.specs.Prelude.{List, Float}
use Rattle.doubles.specs.Answer.{Outcome}
use Rattle.designs.specs.Given.{Given}
use Rattle.definition.specs.Preparation.{prepare_call, prepare_left}
use Rattle.definition.specs.Call.{Lent, early_fault, End, behind, solve_end, answer, buffers}
use Rattle.definition.specs.declared.Settings.{Settings}
use Rattle.definition.specs.declared.Report.{Report}

-- "after the preparation's 7, weights and fit are untouched"
unfoldable pub pair_end : Given → Settings → List Float → Lent → End
pair_end g S buf b = behind (prepare_call g buf) (solve_end g S (prepare_left g buf) b)

-- "Refusal numbers, in the order they are tested": the preparation has no settings, so a caller that keeps document 01's order tests 1 and the settings' 2
-- before it prepares
unfoldable pub ordered_end : Given → Settings → List Float → Lent → End
ordered_end g S buf b = behind (early_fault g S) (pair_end g S buf b)

unfoldable pub pair_call : Given → Settings → List Float → Lent → Outcome Report
pair_call g S buf b = answer S (pair_end g S buf b)

unfoldable pub pair_left : Given → Settings → List Float → Lent → Lent
pair_left g S buf b = buffers g.shape S b (pair_end g S buf b)
