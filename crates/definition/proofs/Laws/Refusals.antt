-- Where the refusal of a solve comes from: 1 to 6 from its tests, 10 from the numbers handed over, and 7 from its run. Assumes nothing.
use mathlib.Core.Path.{◌≡◌, refl, sym}
use mathlib.Core.Bool.{true, not, false≢true}
use mathlib.Core.List.{List}
use Prim.Native.Nat.{ℕ, ◌≤◌}
use lib.Ieee.{Float}
use Rattle.doubles.specs.Steps.{Stage, going, stopped, bad}
use Rattle.doubles.specs.Answer.{refused, answered, Fault, none, ◌then◌}
use Rattle.doubles.proofs.Laws.Ends.{refused≢answered}
use Rattle.designs.specs.Given.{Given}
use Rattle.designs.specs.Search.{first_of, mark}
use Rattle.designs.specs.Checks.{told}
use Rattle.std.specs.Prelude.{Option, Some, None}
use Rattle.definition.specs.Epoch.{Task}
use Rattle.definition.specs.Run.{State, run}
use Rattle.definition.specs.Call.{Lent, acceptable_at, handed_fault, solve_tests, solve_fault, End, untouched, given_up, done, concluded, solved, task_of}
use Rattle.definition.specs.Call.{behind, solve_end, answer, solve_call}
use Rattle.definition.specs.declared.Settings.{Settings}
use Rattle.definition.proofs.Laws.Ends.{given_up≢done, begun, solved_begun}
use Rattle.definition.proofs.Laws.Passed.{tests_most}

pub data From (g : Given) (S : Settings) (handed : List Float) (b : Lent) (number place : ℕ) : Type 0 where
  from-tests : solve_tests g S handed b ≡ refused number place → number ≤ 6 → From g S handed b number place
  from-numbers : solve_tests g S handed b ≡ none → handed_fault g.shape.p handed ≡ refused number place → number ≡ 10 → From g S handed b number place
  from-run : solve_fault g S handed b ≡ none → solved (task_of g S handed) g.targets S ≡ given_up number place → number ≡ 7 → From g S handed b number place

handed_ten : (p : ℕ) (handed : List Float) (number place : ℕ) → handed_fault p handed ≡ refused number place → number ≡ 10
unfolding handed_fault
handed_ten p handed number place = go (first_of (λ j. mark (not (acceptable_at p handed j)) j) p)
  where
    go : (r : Option ℕ) → told 10 r none ≡ refused number place → number ≡ 10
    go (Some k) e = cc
    go None e = absurd (refused≢answered (sym e))

solved-seven : (T : Task) (y : List Float) (S : Settings) (number place : ℕ) → solved T y S ≡ given_up number place → number ≡ 7
unfolding solved
solved-seven T y S number place = go (run T y S)
  where
    go : (r : Stage State) → concluded r ≡ given_up number place → number ≡ 7
    go (stopped s) e = absurd (given_up≢done (sym e))
    go (going s) e = cc
    go bad e = cc

-- a run that was begun and is refused was given up
refused-given_up : (S : Settings) (e : End) (number place : ℕ) → begun e ≡ true → answer S e ≡ refused number place → e ≡ given_up number place
refused-given_up S (untouched m k) number place b e = absurd (false≢true b)
refused-given_up S (given_up m k) number place b e = cc
refused-given_up S (done s) number place b e = absurd (refused≢answered (sym e))

pub refused-from : (g : Given) (S : Settings) (handed : List Float) (b : Lent) (number place : ℕ) → solve_call g S handed b ≡ refused number place
    → From g S handed b number place
unfolding solve_call solve_end solve_fault
refused-from g S handed b number place = go (solve_tests g S handed b) refl (handed_fault g.shape.p handed) refl
  where
    T : Task
    T = task_of g S handed

    go : (f : Fault) → solve_tests g S handed b ≡ f → (h : Fault) → handed_fault g.shape.p handed ≡ h
        → answer S (behind (f then h) (solved T g.targets S)) ≡ refused number place → From g S handed b number place
    go (refused m k) e h q r =
        let t : solve_tests g S handed b ≡ refused number place = cc in
        from-tests t ((tests_most g S handed b).most number place t)
    go (answered u) e (refused m k) q r =
        let t : handed_fault g.shape.p handed ≡ refused number place = cc in
        from-numbers e t (handed_ten g.shape.p handed number place t)
    go (answered u) e (answered v) q r =
        let t = refused-given_up S (solved T g.targets S) number place (solved_begun T g.targets S) r in
        from-run (rw (e, q)) t (solved-seven T g.targets S number place t)
