-- Refusals, settings and reports as plain numbers, for both layouts.
use Rattle.std.specs.Prelude.{ℕ, not, List, eqb, Float}
use Rattle.std.specs.Float.{nan}
use Rattle.doubles.specs.Num.{pick}
use Rattle.doubles.specs.Answer.{Outcome, refused, answered}
use Rattle.penalties.specs.Penalty.{prox}
use Rattle.penalties.specs.declared.separable.Penalty.{Penalty}
use Rattle.penalties.specs.declared.separable.Penalty.TheVariants.{L1, L1PlusL2, MCP}
use Rattle.designs.specs.Given.{Given}
use Rattle.definition.specs.Call.{Lent, solve_call, solve_left}
use Rattle.definition.specs.Walk.{walk_call, walk_left, walk_numbers}
use Rattle.definition.specs.Status.{status_number}
use Rattle.definition.specs.declared.Settings.{Settings}
use Rattle.definition.specs.declared.Report.{Report}
use Rattle.definition.specs.declared.Usable.{Usable}

-- ---- an outcome as plain numbers, whatever is answered: the refusal's number and place, both 0 where there is none
abbrev pub number_in : {A : Type 0} → Outcome A → ℕ
number_in (refused number place) = number
number_in (answered a) = 0

abbrev pub place_in : {A : Type 0} → Outcome A → ℕ
place_in (refused number place) = place
place_in (answered a) = 0

-- and the answer where a caller's number was: refused, it is what it was
abbrev pub answer_in : {A : Type 0} → Outcome A → A → A
answer_in (refused number place) old = old
answer_in (answered a) old = a

-- ---- the settings: "penalty 0 L1/1 L1PlusL2/2 MCP"; "second number (.. ignored for L1)"
-- any other code stands for a penalty with the same alpha and a second number that is in no range, and so for 2 at 6, behind alpha's 2 at 5
abbrev pub no_penalty : Float → Penalty
no_penalty alpha = L1PlusL2 alpha nan

unfoldable pub coded_penalty : ℕ → Float → Float → Penalty
coded_penalty code alpha second =
    pick (eqb code 0) (L1 alpha) (pick (eqb code 1) (L1PlusL2 alpha second) (pick (eqb code 2) (MCP alpha second) (no_penalty alpha)))

-- the prox of the penalty with this code; any other code's is NaN (proofs/Laws/Codes: no_prox)
unfoldable pub coded_prox : ℕ → Float → Float → Float → Float → Float
coded_prox code alpha second v step = prox (coded_penalty code alpha second) v step

-- extrapolation is off at 0, and on at any other number
unfoldable pub coded_settings : ℕ → Float → Float → Float → ℕ → ℕ → ℕ → ℕ → ℕ → Settings
coded_settings code alpha second tolerance start iterations epochs extrapolate depth = record {
  penalty = coded_penalty code alpha second;
  tolerance = tolerance;
  start = start;
  iterations = iterations;
  epochs = epochs;
  extrapolate = not (eqb extrapolate 0);
  depth = depth;
}

-- ---- the report's numbers, which are lent too; the status is its number
pub record ReportNumbers : Type 0 where
  pub status : ℕ
  pub violation : Float
  pub iterations : ℕ
  pub epochs : ℕ
  pub extrapolations : ℕ

abbrev pub report : ℕ → Float → ℕ → ℕ → ℕ → ReportNumbers
report status violation iterations epochs extrapolations =
    record { status = status; violation = violation; iterations = iterations; epochs = epochs; extrapolations = extrapolations }

abbrev pub report_numbers : Report → ReportNumbers
report_numbers r = report (status_number r.status) r.violation r.iterations r.epochs r.extrapolations

-- those of the answer: refused, they are what they were
abbrev pub report_in : Outcome Report → ReportNumbers → ReportNumbers
report_in (refused number place) old = old
report_in (answered r) old = report_numbers r

-- ---- all that a solve leaves its caller: number and place, the report's numbers, and the lent buffers
pub record Reply : Type 0 where
  pub number : ℕ
  pub place : ℕ
  pub report : ReportNumbers
  pub lent : Lent

abbrev pub reply : ℕ → ℕ → ReportNumbers → Lent → Reply
reply number place r b = record { number = number; place = place; report = r; lent = b }

-- where the report's numbers were `old`
unfoldable pub solve_reply : Given → Settings → List Float → Lent → ReportNumbers → Reply
solve_reply g S handed b old =
    let done = solve_call g S handed b in
    reply (number_in done) (place_in done) (report_in done old) (solve_left g S handed b)

-- ---- all that a walk leaves its caller: besides, the position with the report's numbers, and the prepared numbers, which are lent
pub record UsableNumbers : Type 0 where
  pub position : ℕ
  pub report : ReportNumbers

abbrev pub usable : ℕ → ReportNumbers → UsableNumbers
usable position r = record { position = position; report = r }

abbrev pub usable_in : Outcome Usable → UsableNumbers → UsableNumbers
usable_in (refused number place) old = old
usable_in (answered u) old = usable u.position (report_numbers u.report)

pub record WalkReply : Type 0 where
  pub number : ℕ
  pub place : ℕ
  pub found : UsableNumbers
  pub lent : Lent
  pub numbers : List Float

abbrev pub told : ℕ → ℕ → UsableNumbers → Lent → List Float → WalkReply
told number place u b numbers = record { number = number; place = place; found = u; lent = b; numbers = numbers }

-- where the position and the report's numbers were `old`
unfoldable pub walk_reply : Given → Settings → List Float → ℕ → List Float → Lent → UsableNumbers → WalkReply
walk_reply g S alphas most buf b old =
    let found = walk_call g S alphas most buf b in
    told (number_in found) (place_in found) (usable_in found old) (walk_left g S alphas most buf b) (walk_numbers g S alphas buf b)
