-- What the answers of the outer loop stand for, together with the buffers, and what it asks for.
use Rattle.std.specs.Prelude.{◌≡◌, List, [], ℕ, suc, ◌+◌, ◌*◌, ◌≤◌, take, Float, Result, Ok, Err}
use Rattle.doubles.specs.Num.{#0, pick}
use Rattle.doubles.specs.Steps.{tab, Stage, going, stopped, bad}
use Rattle.doubles.specs.Answer.{number, refusal}
use Rattle.doubles.specs.declared.NotFinite.{NotFinite}
use Rattle.doubles.specs.declared.Refusal.{Refusal}
use Rattle.doubles.specs.declared.Reason.TheVariants as Reason
use Rattle.definition.specs.Run.{State}
use Rattle.definition.specs.Call.{End, untouched, given_up, done}
use Rattle.definition.specs.declared.problem.Problem.{Problem}
use Rattle.epochs.specs.Inner.Reading.{kept_here, inner_of, Bounded}
use Rattle.epochs.specs.declared.Pace.{Pace}
use Rattle.epochs.specs.declared.Pace.TheVariants.{Going, Stopped}
use Rattle.iterations.specs.declared.Totals.{Totals}

-- before the first epoch nothing is kept
abbrev pub nothing_kept : Problem → List Float
nothing_kept P = tab (λ i. #0) (pick P.settings.extrapolate (suc P.settings.depth * P.x.matrix.shape.p) 0)

-- the violations are the scratch's first p places
abbrev pub violations_in : Problem → List Float → List Float
violations_in P scratch = take P.x.matrix.shape.p scratch

-- ---- the outer loop, and the working sets that were built
abbrev pub state_of : Totals → List Float → List Float → List Float → List (List ℕ) → State
state_of c w fit kept sets = record { inner = inner_of c.counts w fit kept; violation = c.violation; iterations = c.iterations; sets = sets }

abbrev pub nothing_counted : Totals
nothing_counted = record { violation = #0; iterations = 0; counts = record { epochs = 0; extrapolations = 0 } }

abbrev pub at_violation : Float → Totals → Totals
at_violation v c = record { violation = v; iterations = c.iterations; counts = c.counts }

abbrev pub outer_stage : Result (Pace Totals) NotFinite → List Float → List Float → List Float → List (List ℕ) → Stage State
outer_stage (Ok (Going c)) w fit kept sets = going (state_of c w fit kept sets)
outer_stage (Ok (Stopped c)) w fit kept sets = stopped (state_of c w fit kept sets)
outer_stage (Err e) w fit kept sets = bad

abbrev pub totals_of : Result (Pace Totals) NotFinite → Totals → Totals
totals_of (Ok (Going d)) c = d
totals_of (Ok (Stopped d)) c = d
totals_of (Err e) c = c

abbrev pub sets_of : Stage State → List (List ℕ)
sets_of (going s) = s.sets
sets_of (stopped s) = s.sets
sets_of bad = []

-- the buffers and the answer are that stage; its working sets stand in no buffer
abbrev pub shows : Problem → Result (Pace Totals) NotFinite → List Float → List Float → List Float → Stage State → Type 0
shows P r w fit scratch d = outer_stage r w fit (kept_here P scratch) (sets_of d) ≡ d

-- ---- how a run ends
-- "Refusal 7": a number was not finite
abbrev pub refusing : Result Totals NotFinite → Result Totals Refusal
refusing (Ok c) = Ok c
refusing (Err e) = Err (refusal Reason.NotFinite 0)

abbrev pub end_of : Result Totals Refusal → List Float → List Float → List Float → List (List ℕ) → End
end_of (Ok c) w fit kept sets = done (state_of c w fit kept sets)
end_of (Err r) w fit kept sets = given_up (number r.reason) r.place

abbrev pub sets_at : End → List (List ℕ)
sets_at (done s) = s.sets
sets_at (given_up number place) = []
sets_at (untouched number place) = []

abbrev pub shows_end : Problem → Result Totals Refusal → List Float → List Float → List Float → End → Type 0
shows_end P r w fit scratch d = end_of r w fit (kept_here P scratch) (sets_at d) ≡ d

-- ---- what the loop asks for
-- counts of t iterations
pub record Totalled (t : ℕ) (c : Totals) : Type 0 where
  pub iterations : c.iterations ≤ t
  pub counts : Bounded (t * 100000) c.counts

-- at most one iteration more
pub record Grown (c d : Totals) : Type 0 where
  pub iterations : d.iterations ≤ c.iterations + 1
  pub epochs : d.counts.epochs ≤ c.counts.epochs + 100000
  pub extrapolations : d.counts.extrapolations ≤ c.counts.extrapolations + 100000
