-- The answer and the buffers of a solve, from what its parts answer. Assumes nothing.
use mathlib.Core.Path.{◌≡◌, refl, sym, ◌∙◌}
use mathlib.Core.Bool.{Bool}
use Prim.Native.Nat.{ℕ, ◌+◌, ◌≤◌}
use mathlib.Core.List.{List}
use lib.ListN.{length}
use lib.Ieee.{Float}
use borrow.Author.Tests.{leb-true}
use Rattle.doubles.specs.Num.{◌and◌}
use Rattle.doubles.specs.Steps.{tab, zeros}
use Rattle.doubles.specs.Buffer.{put}
use Rattle.doubles.specs.Answer.{Outcome, refused, answered, Fault, none, number}
use Rattle.std.specs.Prelude.{Result, Ok, Err}
use Rattle.doubles.specs.declared.Refusal.{Refusal}
use Rattle.doubles.proofs.Laws.Choice.{and_both}
use Rattle.doubles.proofs.Laws.Verdict.{spared, then-none}
use Rattle.designs.specs.Given.{Given}
use Rattle.designs.specs.Checks.{sized_fault, room_twice}
use Rattle.designs.specs.declared.Shape.{Shape}
use Rattle.definition.specs.Call.{scratch_room, Lent, lent, roomy, handed_fault, early_fault, solve_tests, solve_fault}
use Rattle.definition.specs.Call.{End, untouched, given_up, done, solved, task_of, solve_end, report_of, answer, buffers, solve_call, solve_left}
use Rattle.definition.specs.declared.Settings.{Settings}
use Rattle.definition.specs.declared.Report.{Report}
use Rattle.definition.proofs.Laws.Passed.{passed}
use Rattle.iterations.specs.Inner.Reading.{end_of, sets_at}
use Rattle.iterations.specs.declared.Totals.{Totals}
use Rattle.solvers.specs.Inner.Left.{Leaves, report_from}

-- ---- after the run
-- d is what the run came to, and r shows it
module _ (S : Settings) (s : Shape) (d : End) (r : Result Totals Refusal) (w fit kept : List Float) (e : end_of r w fit kept (sets_at d) ≡ d) where
  pub run-done : (c : Totals) → r ≡ Ok c → (x : Report) → x ≡ report_from c S.tolerance → (answered x ≡ answer S d) × Leaves s d w fit
  unfolding report_of
  run-done c h x ex = rw (← e, h, ex) (refl, (refl, refl))

  pub run-given_up : (q : Refusal) → r ≡ Err q → (w' fit' : List Float) → w' ≡ zeros (length w) → fit' ≡ zeros (length fit)
      → length w ≡ s.p → length fit ≡ s.n → (refused (number q.reason) q.place ≡ answer S d) × Leaves s d w' fit'
  run-given_up q h w' fit' ew ef lw lf = rw (← e, h, ew, ef, lw, lf) (refl, (refl, refl))

-- ---- the buffers
-- what is put at the front of each, together
pub buffers-left : (s : Shape) (S : Settings) (b : Lent) (d : End) (w fit : List Float) (indices : List ℕ) (scratch : List Float)
    (v f : List Float) (i : List ℕ) (c : List Float)
    → Leaves s d w fit → indices ≡ tab (λ j. 0) s.p → scratch ≡ zeros (scratch_room s S)
    → v ≡ put b.weights 0 w → f ≡ put b.fit 0 fit → i ≡ put b.indices 0 indices → c ≡ put b.scratch 0 scratch
    → lent v f i c ≡ buffers s S b d
buffers-left s S b (done q) w fit indices scratch v f i c l ei es ev ef ej ec = rw (ev, ef, ej, ec, l.0, l.1, ei, es)
buffers-left s S b (given_up number place) w fit indices scratch v f i c l ei es ev ef ej ec = rw (ev, ef, ej, ec, l.0, l.1, ei, es)
buffers-left s S b (untouched number place) w fit indices scratch v f i c l ei es ev ef ej ec = absurd l

-- ---- the tests, one behind the other
module _ (g : Given) (S : Settings) (handed : List Float) (b : Lent) where
  pub refused_early : (number place : ℕ) → refused number place ≡ early_fault g S → refused number place ≡ solve_fault g S handed b
  unfolding solve_fault solve_tests
  refused_early number place e = rw (← e)

  -- the sizes and the settings have passed, and room tells whether there is room
  module _ (e : none ≡ early_fault g S) (room : Bool) (er : room ≡ (room_twice g.shape.p handed and roomy g.shape S b)) where
    pub refused_sized : (number place : ℕ) → refused number place ≡ sized_fault g room → refused number place ≡ solve_fault g S handed b
    unfolding solve_fault solve_tests
    refused_sized number place h = rw (← e, ← er, ← h)

    -- behind them stand the prepared numbers
    module _ (h : none ≡ sized_fault g room) where
      pub numbers-room : g.shape.p + g.shape.p ≤ length handed
      unfolding sized_fault
      numbers-room = leb-true (g.shape.p + g.shape.p) (length handed) (and_both _ _ (sym er ∙ (spared room 3 _ (sym h)).0)).0

      pub handed_last : (f : Fault) → f ≡ handed_fault g.shape.p handed → f ≡ solve_fault g S handed b
      unfolding solve_fault solve_tests
      handed_last f k = k ∙ rw (← e, ← er, ← h)

-- ---- behind the tests
module _ (g : Given) (S : Settings) (handed : List Float) (b : Lent) (h : solve_tests g S handed b ≡ none) where
  -- the prepared numbers are 2p, and each buffer has its room
  pub record Rooms : Type 0 where
    pub prepared : g.shape.p + g.shape.p ≤ length handed
    pub weights : g.shape.p ≤ length b.weights
    pub fit : g.shape.n ≤ length b.fit
    pub indices : g.shape.p ≤ length b.indices
    pub scratch : scratch_room g.shape S ≤ length b.scratch

  pub rooms : Rooms
  unfolding roomy
  rooms =
      let q = and_both _ _ (passed g S handed b h).1.roomy in
      let w = and_both _ _ q.1 in
      let f = and_both _ _ w.1 in
      let i = and_both _ _ f.1 in
      record {
        prepared = leb-true _ _ q.0;
        weights = leb-true _ _ w.0;
        fit = leb-true _ _ f.0;
        indices = leb-true _ _ i.0;
        scratch = leb-true _ _ i.1;
      }

  pub narrow : g.shape.p ≤ 8192
  narrow = (passed g S handed b h).1.sized.narrow

-- ---- the solve, by what its tests found
module _ (g : Given) (S : Settings) (handed : List Float) (b : Lent) where
  abbrev pub Left : Outcome Report → Lent → Type 0
  Left o b' = (o ≡ solve_call g S handed b) × (b' ≡ solve_left g S handed b)

  pub left-refused : (number place : ℕ) → refused number place ≡ solve_fault g S handed b → Left (refused number place) b
  unfolding solve_call solve_left solve_end
  left-refused number place h = rw (← h) (refl, refl)

  -- the run may be made
  module _ (h : none ≡ solve_fault g S handed b) where
    pub tests_passed : solve_tests g S handed b ≡ none
    unfolding solve_fault
    tests_passed = (then-none (solve_tests g S handed b) _ (sym h)).0

    abbrev end : End
    end = solved (task_of g S handed) g.targets S

    pub left-run : (o : Outcome Report) (b' : Lent) → (o ≡ answer S end) × (b' ≡ buffers g.shape S b end) → Left o b'
    unfolding solve_call solve_left solve_end
    left-run o b' q = rw (← h) q
