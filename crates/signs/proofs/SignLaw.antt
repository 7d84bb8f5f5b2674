-- Demand 3, proved of the definitions of both calls: refusals look at nothing that turns, a run that is not refused turns step by step, and what is
-- prepared turns too. Assumes nothing.
use mathlib.Core.Path.{◌≡◌, refl, sym, ◌∙◌}
use mathlib.Core.Bool.{Bool, true}
use mathlib.Core.List.{List}
use Prim.Native.Nat.{ℕ, ◌+◌, ◌<◌}
use lib.ListN.{take}
use lib.Ieee.{Float}
use Rattle.doubles.specs.Answer.{refused, answered, Fault, none}
use Rattle.doubles.specs.Sign.{Turned, Signs}
use Rattle.doubles.proofs.Laws.Verdict.{then-none}
use Rattle.penalties.specs.Odd.{Odd}
use Rattle.penalties.proofs.Odd.{odd}
use Rattle.designs.specs.Design.{Design}
use Rattle.designs.specs.Given.{Given, design_of}
use Rattle.designs.specs.Checks.{preparation_fault}
use Rattle.designs.proofs.Laws.Layouts.{samples, features}
use Rattle.definition.specs.Epoch.{Task}
use Rattle.definition.specs.Preparation.{prepare_call, prepare_left}
use Rattle.definition.specs.Call.{Lent, acceptable_at, handed_fault, solve_tests, solve_fault, solved, task_of}
use Rattle.definition.specs.Call.{behind, solve_end, answer, solve_call, solve_left}
use Rattle.definition.specs.Pair.{pair_end, pair_call, pair_left}
use Rattle.definition.specs.declared.Settings.{Settings}
use Rattle.definition.proofs.Laws.Ends.{solved_begun}
use Rattle.definition.proofs.Laws.Passed.{passed}
use Rattle.definition.proofs.Laws.Settings.{penalty-legal}
use Rattle.two_runs.specs.Stages.{Ends}
use Rattle.two_runs.proofs.Laws.Loops.{ends_map, behind_related}
use Rattle.two_runs.proofs.TwoRuns.{answer-same}
use Rattle.definition.proofs.Laws.Prepared.{task_accepted, answers}
use Rattle.pairs.proofs.AsSingle.{as_single}
use Rattle.signs.specs.Turning.{with_numbers, Turning, HandedTurning, SameRun, SameLeft, SameSolve, LeftBySeven, SameCall}
use Rattle.signs.proofs.Laws.Columns.{with_values, alike}
use Rattle.signs.proofs.Laws.Prepared.{prepare-same, left-turned, left-refused}
use Rattle.signs.proofs.Laws.Steps.{Same, solved-turned}
use Rattle.signs.proofs.Laws.Faults.{fault_same, fault_same-numbers}
use Rattle.signs.proofs.Laws.Left.{solved-sized, buffers-turned}

-- ---- two solves, on any numbers that turn likewise
module _ {c : ℕ → Bool} {t : Bool} {g : Given} {values' y' : List Float} {handed handed' : List Float}
    (turning : Turning c t g values' y') (numbers : HandedTurning c t g.shape.p handed handed') (S : Settings) (b : Lent) where
  abbrev g' : Given
  g' = with_numbers g values' y'

  abbrev T : Task
  T = task_of g S handed

  abbrev T' : Task
  T' = task_of g' S handed'

  refusal-same : solve_fault g S handed b ≡ solve_fault g' S handed' b
  refusal-same = fault_same g turning.stored turning.targets S handed handed' b numbers

  -- X' is the other design
  solve : (p : ℕ) (X X' : Design) (other : ℕ → ℕ → Float) → X.p ≡ p → X' ≡ with_values X other
      → ((j k : ℕ) → j < p → k < X.many j → Turned (c j) (X.value j k) (other j k))
      → HandedTurning c t p handed handed' → ((j : ℕ) → j < p → acceptable_at p (take (p + p) handed) j ≡ true) → Odd S.penalty
      → Ends (Same c t S)
      (solved (record { n = g.shape.n; p = p; X = X; penalty = S.penalty; prepared = take (p + p) handed }) g.targets S)
      (solved (record { n = g.shape.n; p = p; X = X'; penalty = S.penalty; prepared = take (p + p) handed' }) y' S)
  solve p X X' other ep e h k a o =
      rw (e, ← ep)
      (solved-turned c t X other S turning.targets (rw (← ep) at h) g.shape.n (rw (← ep) at k) o (rw (← ep) at a))

  runs-turned : solve_fault g S handed b ≡ none → Ends (Same c t S) (solved T g.targets S) (solved T' y' S)
  unfolding solve_fault
  runs-turned e =
      let s = g.shape in
      let q = then-none (solve_tests g S handed b) (handed_fault s.p handed) e in
      solve s.p (design_of g) (design_of g') (design_of g').value (features s.layout s.n s.p g.starts g.rows g.values)
      (alike s.layout s.n s.p g.starts g.rows g.values values') turning.columns numbers (task_accepted s.p handed q.1)
      (odd S.penalty (penalty-legal S (passed g S handed b q.0).0))

  ends_turned : Ends (Same c t S) (solve_end g S handed b) (solve_end g' S handed' b)
  unfolding solve_end
  ends_turned = behind_related refusal-same runs-turned

  same_left : solve_fault g S handed b ≡ none → SameLeft c t g.shape (solve_left g S handed b) (solve_left g' S handed' b)
  unfolding solve_left solve_end
  same_left e =
      let s = g.shape in
      rw (e, sym refusal-same ∙ e)
      (buffers-turned c t s S b (solved T g.targets S) (solved T' y' S) (solved_begun T g.targets S)
      (solved-sized T g.targets S (samples s.layout s.n s.p g.starts g.rows g.values))
      (ends_map (λ s s' u. u.0) (runs-turned e)))

  pub solve_law : SameSolve c t g g' S handed handed' b
  unfolding solve_call
  solve_law = record {
    refusal = refusal-same;
    answer = answer-same (Same c t S) S (λ s s' u. u.1) ends_turned;
    run = ends_map (λ s s' u. u.0) ends_turned;
    left = same_left;
  }

-- ---- two pairs: the columns need to be turned only where the preparations are not refused with 1 to 6
by-seven : (g : Given) (S : Settings) (buf : List Float) (b : Lent) (place : ℕ) → prepare_call g buf ≡ refused 7 place → LeftBySeven g S buf b
by-seven g S buf b place e = let a = as_single g S buf b in record { numbers = a.zeroed place e; others = a.untouched 7 place e }

module _ (g : Given) {c σ : ℕ → Bool} {t : Bool} {values' y' : List Float} (S : Settings) (buf : List Float) (b : Lent)
    (stored : Signs σ g.values values') (targets : Signs (λ (i : ℕ). t) g.targets y')
    (turns : preparation_fault g buf ≡ none → Turning c t g values' y') where
  abbrev other : Given
  other = with_numbers g values' y'

  preparations_same : prepare_call g buf ≡ prepare_call other buf
  preparations_same = prepare-same g buf stored targets turns

  -- what both solves are handed turns likewise, so the pair's law is theirs
  numbers-turned : prepare_call g buf ≡ none → HandedTurning c t g.shape.p (prepare_left g buf) (prepare_left other buf)
  numbers-turned = left-turned g buf stored targets turns

  solves : prepare_call g buf ≡ none → SameSolve c t g other S (prepare_left g buf) (prepare_left other buf) b
  solves e = solve_law (turns (answers g buf e).0) (numbers-turned e) S b

  solve_faults_same : solve_fault g S (prepare_left g buf) b ≡ solve_fault other S (prepare_left other buf) b
  solve_faults_same = go (prepare_call g buf) refl
    where
      go : (f : Fault) → prepare_call g buf ≡ f → solve_fault g S (prepare_left g buf) b ≡ solve_fault other S (prepare_left other buf) b
      go (answered u) e = (solves e).refusal
      go (refused number place) e =
          fault_same-numbers g stored targets S (prepare_left g buf) (prepare_left other buf) b (left-refused g buf stored targets turns number place e)

  pairs_answer-same : pair_call g S buf b ≡ pair_call other S buf b
  unfolding pair_call pair_end
  pairs_answer-same = rw (← preparations_same) (go (prepare_call g buf) refl)
    where
      go : (f : Fault) → prepare_call g buf ≡ f
          → answer S (behind f (solve_end g S (prepare_left g buf) b)) ≡ answer S (behind f (solve_end other S (prepare_left other buf) b))
      go (answered u) e = unfold solve_call in (solves e).answer
      go (refused number place) e = refl

  pairs_end_alike : Ends (SameRun c t S) (pair_end g S buf b) (pair_end other S buf b)
  unfolding pair_end
  pairs_end_alike = behind_related preparations_same (λ e. (solves e).run)

  pairs_left : prepare_call g buf ≡ none → solve_fault g S (prepare_left g buf) b ≡ none
      → SameLeft c t g.shape (pair_left g S buf b) (pair_left other S buf b)
  unfolding pair_left pair_end solve_left
  pairs_left e h = rw (e, sym preparations_same ∙ e) ((solves e).left h)

  pub sign_law_passed : SameCall c t g other S buf b
  sign_law_passed = record {
    preparation = preparations_same;
    refusal = solve_faults_same;
    answer = pairs_answer-same;
    run = pairs_end_alike;
    prepared = numbers-turned;
    left = pairs_left;
    seven = λ place e. (by-seven g S buf b place e, by-seven other S buf b place (sym preparations_same ∙ e));
  }

pub sign_law : {c : ℕ → Bool} {t : Bool} {g : Given} {values' y' : List Float} → Turning c t g values' y'
    → (S : Settings) (buf : List Float) (b : Lent) → SameCall c t g (with_numbers g values' y') S buf b
sign_law {g = g} turning S buf b = sign_law_passed g S buf b turning.stored turning.targets (λ e. turning)
