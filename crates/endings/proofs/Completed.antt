-- What a completed run holds: every point that a run comes to is finite, and it stops only behind a check at which every violation was. Assumes nothing.
use mathlib.Core.Path.{◌≡◌, refl, sym, ap, ◌∙◌}
use mathlib.Core.Bool.{Bool, true, false, false≢true}
use mathlib.Core.List.{List}
use Prim.Native.Nat.{ℕ, ◌+◌, ◌≤◌, ◌<◌}
use lib.Dec.{eqb}
use lib.Ieee.{Float, le}
use Rattle.doubles.specs.Num.{at, finite, pick, ◌or◌}
use Rattle.doubles.specs.Steps.{Stage, going, stopped, bad, and_then}
use Rattle.doubles.specs.Answer.{refused, answered, Fault}
use Rattle.doubles.proofs.Laws.Choice.{and_both}
use Rattle.doubles.proofs.Laws.Verdict.{then-none}
use Rattle.doubles.proofs.Laws.Steps.{all-each}
use Rattle.doubles.proofs.Laws.Finite.{largest-finite}
use Rattle.doubles.proofs.Laws.Ends.{last_turn, going≢stopped, stopped≢bad, refused≢answered}
use Rattle.designs.specs.Given.{Given}
use Rattle.designs.proofs.Laws.Layouts.{samples}
use Rattle.definition.specs.Epoch.{Task, violation_of, known, all_known, worst}
use Rattle.definition.specs.Run.{Inner, epochs, State, chosen_set, iteration, ends, turn, start, run}
use Rattle.definition.specs.Call.{Lent, handed_fault, solve_tests, solve_fault, End, untouched, given_up, done, solved, task_of, behind, solve_end}
use Rattle.definition.specs.Call.{report_of, answer, buffers, solve_call, solve_left}
use Rattle.definition.specs.declared.Settings.{Settings}
use Rattle.definition.specs.declared.Report.{Report}
use Rattle.definition.proofs.Laws.Ends.{begun, solved-done}
use Rattle.definition.proofs.Laws.Left.{left-weight, left-fit}
use Rattle.definition.proofs.Laws.Passed.{passed}
use Rattle.two_runs.proofs.OneRun.{reached-keeps}
use Rattle.endings.specs.NotFinite.{worst_at}
use Rattle.endings.specs.Completed.{Finite, Completed, CompletedCall}
use Rattle.endings.proofs.Laws.Points.{Good, good-kept}

module _ (T : Task) (y : List Float) (S : Settings) where
  worst-finite : 1 ≤ T.p → (w fit : List Float) → all_known T w fit ≡ true → finite (worst T w fit) ≡ true
  unfolding all_known known worst
  worst-finite some w fit h =
      largest-finite (violation_of T w fit) T.p some (λ j l. (and_both _ _ (all-each (known T w fit) T.p h j l)).1)

  -- ---- the turn that stops the run
  record Stops (s e : State) : Type 0 where
    known : all_known T s.inner.point.weights s.inner.point.fit ≡ true
    state : record { inner = s.inner; violation = worst_at T s; iterations = s.iterations; sets = s.sets } ≡ e

  iteration_goes : (v : Float) (s e : State) → iteration T y S v s ≡ stopped e → ⊥
  unfolding iteration
  iteration_goes v s e = go (epochs T y S (chosen_set T S s.inner.point) v s.inner) _
    where
      go : (x : Stage Inner) (g : Inner → State) → and_then x (λ i. going (g i)) ≡ stopped e → ⊥
      go (going i) g r = going≢stopped r
      go (stopped i) g r = going≢stopped r
      go bad g r = stopped≢bad (sym r)

  turn_stops : (t : ℕ) (s e : State) → turn T y S t s ≡ stopped e → Stops s e
  unfolding turn
  turn_stops t s e =
      go (all_known T s.inner.point.weights s.inner.point.fit) refl
      (le (worst_at T s) S.tolerance or eqb t S.iterations)
    where
      go : (k : Bool) → all_known T s.inner.point.weights s.inner.point.fit ≡ k → (o : Bool)
          → pick k (pick o (ends s (worst_at T s)) (iteration T y S (worst_at T s) s)) bad ≡ stopped e → Stops s e
      go true h true r = record { known = h; state = cc }
      go true h false r = absurd (iteration_goes _ s e r)
      go false h o r = absurd (stopped≢bad (sym r))

  -- ---- the run, and the solve
  module _ (some : 1 ≤ T.p) (same : T.X.n ≡ T.n) where
    stops_completed : (s e : State) → Good T.n T.p s.inner.point → Stops s e → Completed T.n T.p e
    stops_completed s e g h = rw (← h.state) (record {
      weights = g.weights.size;
      fit = g.fit.sure.size;
      numbers = record {
        weight = g.weights.finite;
        entry = g.fit.finite;
        sign = λ i l. (g.fit.sure.each i l).never;
        largest = worst-finite some s.inner.point.weights s.inner.point.fit h.known;
      };
    })

    run_completed : (e : State) → run T y S ≡ stopped e → Completed T.n T.p e
    unfolding run
    run_completed e r =
        let l = last_turn (turn T y S) (start T S) (S.iterations + 1) (rw r) in
        stops_completed l.before e
        (reached-keeps T y S (Good T.n T.p) (good-kept T y S same) l.turn l.before l.reached)
        (turn_stops l.turn l.before e (l.last ∙ r))

    solved_completed : (e : State) → solved T y S ≡ done e → Completed T.n T.p e
    solved_completed e r = run_completed e (solved-done T y S e r)

-- ---- a solve, with its tests
finite-left : (n p : ℕ) (w fit w' fit' : List Float) (v : Float) → Finite n p w fit v
    → ((j : ℕ) → j < p → at w' j ≡ at w j) → ((i : ℕ) → i < n → at fit' i ≡ at fit i) → Finite n p w' fit' v
finite-left n p w fit w' fit' v h k l = record {
  weight = λ j m. rw (k j m) (h.weight j m);
  entry = λ i m. rw (l i m) (h.entry i m);
  sign = λ i m. rw (l i m) (h.sign i m);
  largest = h.largest;
}

module _ (g : Given) (S : Settings) (handed : List Float) (b : Lent) where
  call-run : (e : State) → solve_end g S handed b ≡ done e → Completed g.shape.n g.shape.p e
  unfolding solve_end solve_fault
  call-run e = go (solve_fault g S handed b) refl
    where
      go : (f : Fault) → solve_fault g S handed b ≡ f → behind f (solved (task_of g S handed) g.targets S) ≡ done e → Completed g.shape.n g.shape.p e
      go (answered u) h r =
          let s = g.shape in
          let t = (then-none (solve_tests g S handed b) (handed_fault s.p handed) h).0 in
          solved_completed (task_of g S handed) g.targets S (passed g S handed b t).1.sized.wide
          (samples s.layout s.n s.p g.starts g.rows g.values) e r
      go (refused number place) h r = absurd (false≢true (ap begun r))

  call-left : (r : Report) → solve_call g S handed b ≡ answered r
      → Finite g.shape.n g.shape.p (solve_left g S handed b).weights (solve_left g S handed b).fit r.violation
  unfolding solve_call solve_left report_of
  call-left r = go (solve_end g S handed b) refl
    where
      go : (x : End) → solve_end g S handed b ≡ x → answer S x ≡ answered r
          → Finite g.shape.n g.shape.p (buffers g.shape S b x).weights (buffers g.shape S b x).fit r.violation
      go (done e) q a =
          let c = call-run e q in
          let w = e.inner.point.weights in
          let f = e.inner.point.fit in
          let v : report_of S e ≡ r = cc in
          rw (← v)
          (finite-left g.shape.n g.shape.p w f _ _ (report_of S e).violation c.numbers
          (left-weight g.shape S b w f c.weights) (left-fit g.shape S b w f c.fit))
      go (given_up number place) q a = absurd (refused≢answered a)
      go (untouched number place) q a = absurd (refused≢answered a)

  pub completed : CompletedCall g S handed b
  completed = record { run = call-run; left = call-left }
