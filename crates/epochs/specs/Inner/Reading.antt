-- What the answers of the inner loops stand for, together with the buffers, and what the loops ask for.
use Rattle.std.specs.Prelude.{◌≡◌, List, [], ℕ, ◌≤◌, ◌<◌, length, get_or, Float, Result, Ok, Err}
use Rattle.doubles.specs.Num.{pick}
use Rattle.doubles.specs.Steps.{Stage, going, stopped, bad}
use Rattle.doubles.specs.declared.NotFinite.{NotFinite}
use Rattle.definition.specs.Run.{Inner}
use Rattle.definition.specs.Call.{scratch_room}
use Rattle.definition.specs.declared.problem.Problem.{Problem}
use Rattle.extrapolation.specs.Inner.Places.{kept_in, point_with}
use Rattle.extrapolation.specs.declared.step.Step.{Step}
use Rattle.epochs.specs.declared.Counts.{Counts}
use Rattle.epochs.specs.declared.Pace.{Pace}
use Rattle.epochs.specs.declared.Pace.TheVariants.{Going, Stopped}

-- what is kept, if anything is
unfoldable pub kept_here : Problem → List Float → List Float
kept_here P scratch = pick P.settings.extrapolate (kept_in P.x.matrix.shape P.settings.depth scratch) []

-- ---- within one working set
abbrev pub inner_of : Counts → List Float → List Float → List Float → Inner
inner_of c w fit kept = record { point = point_with w fit; kept = kept; epochs = c.epochs; extrapolations = c.extrapolations }

abbrev pub inner_stage : Result (Pace Counts) NotFinite → List Float → List Float → List Float → Stage Inner
inner_stage (Ok (Going c)) w fit kept = going (inner_of c w fit kept)
inner_stage (Ok (Stopped c)) w fit kept = stopped (inner_of c w fit kept)
inner_stage (Err e) w fit kept = bad

-- what was counted, or c where a number was not finite
abbrev pub counts_of : Result (Pace Counts) NotFinite → Counts → Counts
counts_of (Ok (Going d)) c = d
counts_of (Ok (Stopped d)) c = d
counts_of (Err e) c = c

-- what an extrapolation looks at is the problem's
abbrev pub IsStepOf : Problem → Step → Type 0
IsStepOf P s = (s.x ≡ P.x) × (s.y ≡ P.y) × (s.penalty ≡ P.settings.penalty) × (s.depth ≡ P.settings.depth)

-- ---- what the loops ask for
-- each buffer has the room that the problem asks for
pub record Ready (P : Problem) (w fit scratch : List Float) : Type 0 where
  pub weights : length w ≡ P.x.matrix.shape.p
  pub fits : length fit ≡ P.x.matrix.shape.n
  pub room : length scratch ≡ scratch_room P.x.matrix.shape P.settings

-- a working set of its features
pub record Features (P : Problem) (ws : List ℕ) : Type 0 where
  pub few : length ws ≤ P.x.matrix.shape.p
  pub below : (k : ℕ) → k < length ws → get_or ws k 0 < P.x.matrix.shape.p

-- counts of at most m epochs
pub record Bounded (m : ℕ) (c : Counts) : Type 0 where
  pub epochs : c.epochs ≤ m
  pub extrapolations : c.extrapolations ≤ m
