-- Refusal 7 of a solve exactly where its run comes to a number that is not finite: the tests before the run give no 7, and a run never ends going on.
-- Assumes nothing.
use mathlib.Core.Path.{◌≡◌}
use mathlib.Core.List.{List}
use Prim.Native.Nat.{ℕ}
use native.Mathlib.Omega.{arith}
use lib.Ieee.{Float}
use Rattle.doubles.specs.Answer.{refused, answered, Fault, none}
use Rattle.doubles.proofs.Laws.Ends.{refused≢answered}
use Rattle.designs.specs.Given.{Given}
use Rattle.definition.specs.Epoch.{Task}
use Rattle.definition.specs.Call.{Lent, solve_fault, given_up, task_of, behind, solve_end, answer, solve_call}
use Rattle.definition.specs.declared.Settings.{Settings}
use Rattle.definition.specs.declared.Report.{Report}
use Rattle.definition.proofs.Laws.Ends.{run-over}
use Rattle.definition.proofs.Laws.Refusals.{From, from-tests, from-numbers, from-run, refused-from}
use Rattle.endings.specs.NotFinite.{NotFinite, SolveEnds, Seven}
use Rattle.endings.proofs.Laws.Broken.{solved_broken}
use Rattle.endings.proofs.Laws.Breaks.{solved_breaks}

pub solve-ends : (T : Task) (y : List Float) (S : Settings) → SolveEnds T y S
solve-ends T y S = record { ends = run-over T y S; only = solved_broken T y S; whenever = solved_breaks T y S }

module _ (g : Given) (S : Settings) (handed : List Float) (b : Lent) where
  abbrev T : Task
  T = task_of g S handed

  abbrev y : List Float
  y = g.targets

  seven-only : (place : ℕ) → solve_call g S handed b ≡ refused 7 place → NotFinite T y S
  seven-only place e = go (refused-from g S handed b 7 place e)
    where
      go : From g S handed b 7 place → NotFinite T y S
      go (from-tests t l) = absurd (omega (arith, l))
      go (from-numbers t n l) = absurd (omega (arith, l))
      go (from-run t r l) = solved_broken T y S 7 place r

  seven_if : solve_fault g S handed b ≡ none → NotFinite T y S → solve_call g S handed b ≡ refused 7 0
  unfolding solve_call solve_end
  seven_if h w = rw (h, solved_breaks T y S w)

  answered-none : (r : Report) → solve_call g S handed b ≡ answered r → NotFinite T y S → ⊥
  unfolding solve_call solve_end
  answered-none r e w = go (solve_fault g S handed b) (rw (solved_breaks T y S w) at e)
    where
      go : (f : Fault) → answer S (behind f (given_up 7 0)) ≡ answered r → ⊥
      go (answered u) h = refused≢answered h
      go (refused number k) h = refused≢answered h

  pub seven : Seven g S handed b
  seven = record { only = seven-only; whenever = seven_if; answers = answered-none }
