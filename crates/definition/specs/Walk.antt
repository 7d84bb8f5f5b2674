-- Request 7: "Walk a list of penalties and stop at the first usable one. Forecasters hand in 1 to 64 falling alphas and want the largest that gives at
-- most m nonzero weights with status 1. Every fit begins from zero weights." Each fit is preparing and then solving (Pair.antt), with one of the alphas in
-- the settings' place. The list falls, so that the first usable alpha is the largest.
use Rattle.std.specs.Prelude.{Bool, false, List, ℕ, ◌+◌, ◌-◌, leb, eqb, length, Float}
use Rattle.std.specs.Float.Ieee.{lt}
use Rattle.doubles.specs.Num.{#0, at, ◌and◌, ◌or◌}
use Rattle.doubles.specs.Steps.{all, zeros}
use Rattle.doubles.specs.Buffer.{put}
use Rattle.doubles.specs.Answer.{Outcome, refused, answered, Fault, none, unless_at, ◌then◌, left}
use Rattle.penalties.specs.Penalty.{alpha_legal, with_alpha}
use Rattle.penalties.specs.declared.separable.Penalty.{Penalty}
use Rattle.designs.specs.Given.{Given}
use Rattle.designs.specs.Search.{first_of, mark}
use Rattle.designs.specs.Checks.{sized_fault, room_twice}
use Rattle.std.specs.Prelude.{Option, Some, None}
use Rattle.definition.specs.WorkingSet.{nonzeros}
use Rattle.definition.specs.Call.{Lent, roomy, early_fault, End, untouched, given_up, done, behind, report_of, answer, buffers}
use Rattle.definition.specs.Pair.{pair_end}
use Rattle.definition.specs.declared.Settings.{Settings}
use Rattle.definition.specs.declared.Report.{Report}
use Rattle.definition.specs.declared.Usable.{Usable}
use Rattle.definition.specs.Status.{is_met}

-- ---- the settings: "The settings' alpha is neither used nor tested": another stands in its place
abbrev pub with_penalty : Settings → Penalty → Settings
with_penalty S P = record {
  penalty = P;
  tolerance = S.tolerance;
  start = S.start;
  iterations = S.iterations;
  epochs = S.epochs;
  extrapolate = S.extrapolate;
  depth = S.depth;
}

abbrev pub at_alpha : Settings → Float → Settings
at_alpha S alpha = with_penalty S (with_alpha S.penalty alpha)

-- ---- the list: "empty, too long, not strictly falling or holds a bad alpha"
-- entry k is in alpha's range and, but for the first, below the one before
unfoldable pub good_at : List Float → ℕ → Bool
good_at alphas k = alpha_legal (at alphas k) and (eqb k 0 or lt (at alphas k) (at alphas (k - 1)))

-- "1 to 64 falling alphas"
unfoldable pub list_legal : List Float → Bool
list_legal alphas = leb 1 (length alphas) and leb (length alphas) 64 and all (good_at alphas) (length alphas)

-- "place 7, after the places of request 1"
unfoldable pub list_fault : List Float → Fault
list_fault alphas = unless_at (list_legal alphas) 2 7 none

-- ---- the tests in their order: 1, the settings' 2 with a good alpha in place of theirs, the list's, then 3 to 6
unfoldable pub walk_early : Given → Settings → List Float → Fault
walk_early g S alphas = early_fault g (at_alpha S #0) then list_fault alphas

unfoldable pub walk_tests : Given → Settings → List Float → List Float → Lent → Fault
walk_tests g S alphas buf b = walk_early g S alphas then sized_fault g (room_twice g.shape.p buf and roomy g.shape S b)

-- ---- the property: "at most m nonzero weights with status 1"
unfoldable pub wanted : ℕ → Report → ℕ → Bool
wanted most r nonzero = is_met r.status and leb nonzero most

-- of a fit: "an alpha whose fit gives 7 lacks it, as all do if the walk's own preparation gives 7"
abbrev pub usable_fit : Settings → ℕ → End → Bool
usable_fit S most (untouched number place) = false
usable_fit S most (given_up number place) = false
usable_fit S most (done s) = wanted most (report_of S s) (nonzeros s.inner.point.weights)

-- ---- the walk
-- the first place of n fits that has it
unfoldable pub first_usable : Settings → ℕ → (ℕ → End) → ℕ → Option ℕ
first_usable S most fits n = first_of (λ k. mark (usable_fit S most (fits k)) k) n

-- "judged by the fit's definition": preparing and then solving with the alpha at place k
unfoldable pub fit_at : Given → Settings → List Float → List Float → Lent → ℕ → End
fit_at g S alphas buf b k = pair_end g (at_alpha S (at alphas k)) buf b

unfoldable pub position : Given → Settings → List Float → ℕ → List Float → Lent → Option ℕ
position g S alphas most buf b = first_usable S most (fit_at g S alphas buf b) (length alphas)

-- "11 (none usable, place 0), which leaves weights and fit zero"
abbrev pub end_at : (ℕ → End) → Option ℕ → End
end_at fits (Some k) = fits k
end_at fits None = given_up 11 0

unfoldable pub walk_end : Given → Settings → List Float → ℕ → List Float → Lent → End
walk_end g S alphas most buf b = behind (walk_tests g S alphas buf b) (end_at (fit_at g S alphas buf b) (position g S alphas most buf b))

-- ---- the answer: "the position in the list with its weights, fit and report"
abbrev pub placed : ℕ → Outcome Report → Outcome Usable
placed k (refused number place) = refused number place
placed k (answered r) = answered (record { position = k; report = r })

-- where none was found, nothing is answered at any position
abbrev pub placed_at : Option ℕ → Outcome Report → Outcome Usable
placed_at (Some k) o = placed k o
placed_at None o = placed 0 o

unfoldable pub walk_call : Given → Settings → List Float → ℕ → List Float → Lent → Outcome Usable
walk_call g S alphas most buf b = placed_at (position g S alphas most buf b) (answer S (walk_end g S alphas most buf b))

-- ---- the buffers
unfoldable pub walk_left : Given → Settings → List Float → ℕ → List Float → Lent → Lent
walk_left g S alphas most buf b = buffers g.shape S b (walk_end g S alphas most buf b)

-- "Unless it is refused with 1 to 6, the walk's 2p prepared numbers end at zero"
unfoldable pub walk_numbers : Given → Settings → List Float → List Float → Lent → List Float
walk_numbers g S alphas buf b = left (walk_tests g S alphas buf b) (put buf 0 (zeros (g.shape.p + g.shape.p))) buf
