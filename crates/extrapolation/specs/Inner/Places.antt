-- Where in the scratch the extrapolation finds its numbers, and what its function asks for.
use Rattle.std.specs.Prelude.{◌≡◌, List, ℕ, suc, ◌+◌, ◌*◌, ◌≤◌, ◌<◌, length, get_or, take, drop, Float}
use Rattle.std.specs.Float.Ieee.{lt}
use Rattle.doubles.specs.Num.{pick, ◌and◌}
use Rattle.penalties.specs.declared.separable.Penalty.{Penalty}
use Rattle.designs.specs.declared.Shape.{Shape}
use Rattle.definition.specs.Epoch.{Task, task, Point}
use Rattle.definition.specs.Extrapolation.{Tried, kept_now, keeps, objective_of, all_finite, chosen, candidate_of}
use Rattle.extrapolation.specs.declared.step.Step.{Step}

-- what is kept: K+1 rows of p places behind the violations
unfoldable pub kept_in : Shape → ℕ → List Float → List Float
kept_in s K scratch = take (suc K * s.p) (drop s.p scratch)

abbrev pub kept_then : Shape → ℕ → ℕ → List ℕ → List Float → List Float → List Float
kept_then s K e ws w scratch = kept_now K s.p e ws w (kept_in s K scratch)

abbrev pub point_with : List Float → List Float → Point
point_with w fit = record { weights = w; fit = fit }

abbrev pub tried_of : ℕ → List Float → List Float → Tried
tried_of r w fit = record { point = point_with w fit; taken = r }

-- behind K rows that stay zero: the weights as they were, and the candidate's fit
unfoldable pub old_at : Shape → ℕ → ℕ
old_at s K = (2 * K + 2) * s.p

unfoldable pub fit_at : Shape → ℕ → ℕ
fit_at s K = (2 * K + 2) * s.p + s.p

-- the choice between two points, of which the old one's objective is known
unfoldable pub chosen_by : Penalty → List Float → Float → Point → Point → Tried
chosen_by penalty y before new old =
    pick (lt (objective_of penalty y new.weights new.fit) before and all_finite new.weights and all_finite new.fit)
    (record { point = new; taken = 1 })
    (keeps old)

-- the candidate of the system's solution z, tried
unfoldable pub tried_from : Task → List Float → ℕ → List ℕ → List Float → List Float → Point → Tried
tried_from T y K ws kept z s = chosen T y (candidate_of T K ws kept z) s

-- the extrapolation never looks at the prepared numbers: what it promises holds for any
abbrev pub task_with : Step → List Float → Task
task_with P prepared = let x = P.x.matrix in task x.shape x.starts.now x.rows.now x.values.now P.penalty prepared

-- where the parts of its scratch begin
abbrev pub Laid : Step → ℕ → ℕ → ℕ → ℕ → ℕ → Type 0
Laid P kept until old fit end =
    let s = P.x.matrix.shape in
    let K = P.depth in
    (kept ≡ s.p) × (until ≡ kept + suc K * s.p) × (old ≡ (2 * K + 2) * s.p) × (fit ≡ old + s.p) × (end ≡ fit + s.n)

-- a working set of its features, and buffers of its room
pub record Sized (P : Step) (ws : List ℕ) (w scratch : List Float) : Type 0 where
  pub weights : length w ≡ P.x.matrix.shape.p
  pub room : length scratch ≡ (2 * P.depth + 3) * P.x.matrix.shape.p + P.x.matrix.shape.n
  pub few : length ws ≤ P.x.matrix.shape.p
  pub below : (k : ℕ) → k < length ws → get_or ws k 0 < P.x.matrix.shape.p

-- and a fit with them
pub record StepReady (P : Step) (ws : List ℕ) (w fit scratch : List Float) : Type 0 where
  pub sized : Sized P ws w scratch
  pub fits : length fit ≡ P.x.matrix.shape.n
