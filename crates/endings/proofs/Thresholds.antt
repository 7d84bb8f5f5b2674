-- In every visit that a run comes to and whose gradient is finite, no argument of the prox is NaN: the weights of a run are finite, and so are the
-- constant, which is no zero, and its inverse; so the quotient and the difference are numbers, if perhaps infinities. Assumes nothing.
use mathlib.Core.Path.{◌≡◌}
use mathlib.Core.Bool.{true, false}
use mathlib.Core.List.{List}
use Prim.Native.Nat.{ℕ, ◌+◌, ◌<◌}
use native.Mathlib.Omega.{arith}
use lib.Dec as Dec
use lib.Seq.{get_or-take}
use lib.Ieee.{Float, nan, binary64, eq, fits}
use Rattle.doubles.specs.Num.{◌⊘◌, #0, #1, at, finite}
use Rattle.doubles.specs.Sign.{nonzero}
use Rattle.doubles.specs.Answer.{none}
use Rattle.doubles.proofs.Laws.Verdict.{then-none}
use Rattle.doubles.proofs.Laws.Order.{nonzero_of}
use Rattle.doubles.proofs.Laws.Ends.{or_else}
use Rattle.doubles.proofs.Laws.Number.{finite_number, quotient_number, less_number, inverse-nonzero}
use Rattle.penalties.specs.Penalty.{penalty_fault}
use Rattle.penalties.proofs.Numbers.{threshold-number, prox_as_before}
use Rattle.designs.specs.Given.{Given, design_of}
use Rattle.designs.proofs.Laws.Layouts.{samples, features}
use Rattle.designs.proofs.Laws.Preparation.{constant-fits}
use Rattle.definition.specs.Epoch.{Task, Point, constant, gradient_of, new_weight}
use Rattle.definition.specs.Preparation.{prepare_call, prepare_left}
use Rattle.definition.specs.Call.{Lent, acceptable_at, handed_fault, solve_tests, solve_fault, task_of}
use Rattle.definition.specs.declared.Settings.{Settings}
use Rattle.definition.proofs.Laws.Handed.{accepted}
use Rattle.definition.proofs.Laws.Passed.{passed}
use Rattle.definition.proofs.Laws.Settings.{penalty-legal}
use Rattle.two_runs.proofs.OneRun.{visit_feature, visit-keeps}
use Rattle.definition.proofs.Laws.Prepared.{task_accepted, left_at}
use Rattle.endings.specs.NotFinite.{Visited, visited}
use Rattle.endings.specs.Thresholds.{value_at, AsBefore}
use Rattle.endings.proofs.Laws.Points.{Good, good-kept}

-- ---- a run with acceptable numbers, the constants being doubles
module _ (T : Task) (y : List Float) (S : Settings) (legal : penalty_fault T.penalty ≡ none) (same : T.X.n ≡ T.n)
    (columns : (j : ℕ) → j < T.p → acceptable_at T.p T.prepared j ≡ true)
    (double : (j : ℕ) → j < T.p → Dec.T (fits binary64 (constant T j))) where
  -- a visit at finite numbers
  numbers_as_before : (q : Point) (j : ℕ) → j < T.p → finite (at q.weights j) ≡ true → eq (constant T j) #0 ≡ false
      → finite (gradient_of T q.fit j) ≡ true → AsBefore T q j
  unfolding new_weight
  numbers_as_before q j l w z g =
      let L = constant T j in
      let a = accepted L _ (columns j l) in
      let n : Dec.T (nonzero L) = nonzero_of L z in
      let step : finite (#1 ⊘ L) ≡ true = or_else _ _ a.inverse z in
      let some : Dec.T (nonzero (#1 ⊘ L)) = inverse-nonzero L (double j l) a.known n in
      let v = less_number (at q.weights j) _ w (quotient_number (gradient_of T q.fit j) L g a.known n) in
      record {
        value = v;
        step = finite_number (#1 ⊘ L) step;
        threshold = threshold-number (#1 ⊘ L) step some T.penalty legal;
        weight = prox_as_before (#1 ⊘ L) step some T.penalty legal (value_at T q j) v;
      }

  pub solve_as_before : {q : Point} {j : ℕ} → Visited T y S q j → finite (gradient_of T q.fit j) ≡ true → AsBefore T q j
  solve_as_before (visited {s = s} {e = e} {i = i} at place l {q = q} r z) g =
      let reached = at.iterates.turns.reached in
      let kept = good-kept T y S same in
      let feature = visit_feature T y S (Good T.n T.p) kept at.turn s reached place l in
      let good = visit-keeps T y S (Good T.n T.p) kept at.turn s reached _ e i at.reached place l q r in
      numbers_as_before q _ feature (good.weights.finite _ feature) z g

-- ---- a solve on any numbers that 10 lets pass, its constants being doubles: the step of a number beyond them may be zero
module _ (g : Given) (S : Settings) (handed : List Float) (b : Lent) (h : solve_fault g S handed b ≡ none) where
  abbrev p : ℕ
  p = g.shape.p

  abbrev T : Task
  T = task_of g S handed

  behind-tests : (solve_tests g S handed b ≡ none) × (handed_fault p handed ≡ none)
  unfolding solve_fault
  behind-tests = then-none (solve_tests g S handed b) (handed_fault p handed) h

  pub as_before : ((j : ℕ) → j < p → Dec.T (fits binary64 (at handed j)))
      → {q : Point} {j : ℕ} → Visited T g.targets S q j → finite (gradient_of T q.fit j) ≡ true → AsBefore T q j
  as_before double =
      let s = g.shape in
      solve_as_before T g.targets S (penalty-legal S (passed g S handed b behind-tests.0).0)
      (samples s.layout s.n s.p g.starts g.rows g.values)
      (task_accepted p handed behind-tests.1)
      (λ j l. rw (get_or-take (p + p) handed j nan (omega arith)) (double j l))

-- ---- a solve on what a preparation left: its constants are doubles
pub pair_as_before : (g : Given) (S : Settings) (buf : List Float) (b : Lent) → prepare_call g buf ≡ none → solve_fault g S (prepare_left g buf) b ≡ none
    → {q : Point} {j : ℕ} → Visited (task_of g S (prepare_left g buf)) g.targets S q j
    → finite (gradient_of (task_of g S (prepare_left g buf)) q.fit j) ≡ true → AsBefore (task_of g S (prepare_left g buf)) q j
pair_as_before g S buf b e h =
    let s = g.shape in
    as_before g S (prepare_left g buf) b h
    (λ j l. rw (left_at g buf e j (omega arith))
    (constant-fits (design_of g) g.targets j (rw (features s.layout s.n s.p g.starts g.rows g.values) l)))
