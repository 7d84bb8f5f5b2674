-- The solve of request 5: it "tests 10 after 6, changing nothing", and runs with the numbers handed to it. "Refusals 1 to 6 .. change no lent buffer.
-- Refusal 7 leaves the p weights, n fit entries and used scratch (all its room) at +0 and the p indices at 0. A completed run leaves used scratch and
-- indices at zero too."
use Rattle.std.specs.Prelude.{Bool, true, not, List, ℕ, ◌+◌, ◌*◌, leb, length, take, Float}
use Rattle.std.specs.Float.Ieee.{lt, le}
use Rattle.doubles.specs.Num.{#0, at, pick, ◌and◌}
use Rattle.doubles.specs.Steps.{tab, zeros, Stage, going, stopped, bad}
use Rattle.doubles.specs.Buffer.{put}
use Rattle.doubles.specs.Answer.{Outcome, refused, answered, Fault, none, unless_at, unless, ◌then◌}
use Rattle.penalties.specs.Penalty.{alpha_legal, penalty_fault}
use Rattle.designs.specs.Given.{Given}
use Rattle.designs.specs.Search.{first_of, mark}
use Rattle.designs.specs.Checks.{told, sizes, sized_fault, targets_fit, room_twice}
use Rattle.designs.specs.declared.Shape.{Shape}
use Rattle.definition.specs.Epoch.{Task, task}
use Rattle.definition.specs.Run.{State, run}
use Rattle.definition.specs.Preparation.{usable}
use Rattle.definition.specs.declared.Settings.{Settings}
use Rattle.definition.specs.declared.Report.{Report}
use Rattle.definition.specs.declared.Status.TheVariants.{Met, Spent}

-- ---- 2: "Outer iterations 0 to 1,000; epochs 0 to 100,000; start size 1 to 8,192 ..; Depth K is 1 to 10 when extrapolation is on and ignored when off.
-- Tolerance and alpha are finite and at least 0"
unfoldable pub start_legal : Settings → Bool
start_legal S = leb 1 S.start and leb S.start 8192

unfoldable pub depth_legal : Settings → Bool
depth_legal S = pick S.extrapolate (leb 1 S.depth and leb S.depth 10) true

-- request 1: "Name the setting: iterations, epochs, start, depth, tolerance, alpha, the penalty's second number, tested in that order, with its index 0
-- to 6 as the place"; the last two are the penalty's
unfoldable pub settings_fault : Settings → Fault
settings_fault S =
    unless_at (leb S.iterations 1000) 2 0
    (unless_at (leb S.epochs 100000) 2 1
    (unless_at (start_legal S) 2 2
    (unless_at (depth_legal S) 2 3
    (unless_at (alpha_legal S.tolerance) 2 4
    (penalty_fault S.penalty)))))

-- ---- 3: "p weights, n fit entries, p indices, and float scratch 3p, or (2K+5)·p + n with extrapolation"; "Room for the prepared numbers (2p) leaves the
-- scratch"
unfoldable pub scratch_room : Shape → Settings → ℕ
scratch_room s S = pick S.extrapolate ((2 * S.depth + 3) * s.p + s.n) s.p

-- the lent buffers, before and after
pub record Lent : Type 0 where
  pub weights : List Float
  pub fit : List Float
  pub indices : List ℕ
  pub scratch : List Float

abbrev pub lent : List Float → List Float → List ℕ → List Float → Lent
lent w fit indices scratch = record { weights = w; fit = fit; indices = indices; scratch = scratch }

unfoldable pub roomy : Shape → Settings → Lent → Bool
roomy s S b =
    leb s.p (length b.weights) and leb s.n (length b.fit) and leb s.p (length b.indices) and leb (scratch_room s S) (length b.scratch)

-- ---- 10: "a prepared number not finite, a negative constant, or a nonzero one with an inverse not finite"
unfoldable pub acceptable : Float → Float → Bool
acceptable constant xty = usable constant xty and not (lt constant #0)

-- of column j of the numbers handed over
abbrev pub acceptable_at : ℕ → List Float → ℕ → Bool
acceptable_at p handed j = acceptable (at handed j) (at handed (p + j))

-- "place: first such column"
unfoldable pub handed_fault : ℕ → List Float → Fault
handed_fault p handed = told 10 (first_of (λ j. mark (not (acceptable_at p handed j)) j) p) none

-- ---- the tests in their order
-- 1, then the settings' 2
unfoldable pub early_fault : Given → Settings → Fault
early_fault g S = unless (sizes g.shape g.starts g.rows g.values and targets_fit g) 1 (settings_fault S)

-- 1 to 6
unfoldable pub solve_tests : Given → Settings → List Float → Lent → Fault
solve_tests g S handed b = early_fault g S then sized_fault g (room_twice g.shape.p handed and roomy g.shape S b)

-- "the solve tests 10 after 6"
unfoldable pub solve_fault : Given → Settings → List Float → Lent → Fault
solve_fault g S handed b = solve_tests g S handed b then handed_fault g.shape.p handed

-- ---- how a call ends
-- refused before its run, and no lent buffer is touched; given up in its run; or done
pub data End : Type 0 where
  untouched : (number place : ℕ) → End
  given_up : (number place : ℕ) → End
  done : State → End

-- a run that broke off has met a number that is not finite: 7. None still goes on behind its last turn (proofs/Laws/Ends: run-over)
abbrev pub concluded : Stage State → End
concluded (stopped s) = done s
concluded (going s) = given_up 7 0
concluded bad = given_up 7 0

unfoldable pub solved : Task → List Float → Settings → End
solved T y S = concluded (run T y S)

-- "On any numbers handed to it, a solve answers as the definition run with those numbers": their first 2p
abbrev pub task_of : Given → Settings → List Float → Task
task_of g S handed = task g.shape g.starts g.rows g.values S.penalty (take (g.shape.p + g.shape.p) handed)

-- what the tests refuse is not run
abbrev pub behind : Fault → End → End
behind (answered u) e = e
behind (refused number place) e = untouched number place

unfoldable pub solve_end : Given → Settings → List Float → Lent → End
solve_end g S handed b = behind (solve_fault g S handed b) (solved (task_of g S handed) g.targets S)

-- ---- the answer
-- "Status is 1 (met) if violation ≤ tolerance, else 2 (spent)"
unfoldable pub report_of : Settings → State → Report
report_of S s = record {
  status = pick (le s.violation S.tolerance) Met Spent;
  violation = s.violation;
  iterations = s.iterations;
  epochs = s.inner.epochs;
  extrapolations = s.inner.extrapolations;
}

abbrev pub answer : Settings → End → Outcome Report
answer S (untouched number place) = refused number place
answer S (given_up number place) = refused number place
answer S (done s) = answered (report_of S s)

-- ---- the buffers
-- their room as a run leaves it that was begun: weights and fit, then indices and scratch at zero
abbrev pub filled : Shape → Settings → Lent → List Float → List Float → Lent
filled s S b w fit = record {
  weights = put b.weights 0 w;
  fit = put b.fit 0 fit;
  indices = put b.indices 0 (tab (λ j. 0) s.p);
  scratch = put b.scratch 0 (zeros (scratch_room s S));
}

abbrev pub buffers : Shape → Settings → Lent → End → Lent
buffers s S b (untouched number place) = b
buffers s S b (given_up number place) = filled s S b (zeros s.p) (zeros s.n)
buffers s S b (done q) = filled s S b q.inner.point.weights q.inner.point.fit

unfoldable pub solve_call : Given → Settings → List Float → Lent → Outcome Report
solve_call g S handed b = answer S (solve_end g S handed b)

unfoldable pub solve_left : Given → Settings → List Float → Lent → Lent
solve_left g S handed b = buffers g.shape S b (solve_end g S handed b)
