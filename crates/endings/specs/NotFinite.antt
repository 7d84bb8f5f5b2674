-- "7: during the run: a Lipschitz constant, the inverse of a nonzero one, X'y entry (these for all columns first), gradient, violation, new weight or
-- changed fit entry is not finite": which numbers these are, and where a run comes to them. Since request 5 the first three are the preparation's.
use Rattle.std.specs.Prelude.{◌≡◌, true, false, List, ℕ, ◌+◌, ◌≤◌, ◌<◌, length, get_or, Float}
use Rattle.std.specs.Float.Ieee.{eq, le}
use Rattle.doubles.specs.Num.{◌⊖◌, ◌⊘◌, #0, #1, at, finite}
use Rattle.doubles.specs.Steps.{going, upto, over}
use Rattle.doubles.specs.Answer.{refused, answered, none}
use Rattle.designs.specs.Design.{moved}
use Rattle.designs.specs.Given.{Given}
use Rattle.designs.specs.Checks.{preparation_fault}
use Rattle.definition.specs.Epoch as Epoch
use Rattle.definition.specs.Epoch.{Task, gradient_of, violation_of, all_known, worst, Point, new_weight, visit, visits}
use Rattle.definition.specs.Run.{Inner, accelerated, checks, epoch, State, chosen_set, turn, start, run}
use Rattle.definition.specs.Preparation.{prepared_of, prepare_call}
use Rattle.definition.specs.Call.{Lent, solve_fault, given_up, solved, task_of, solve_call}
use Rattle.definition.specs.declared.Settings.{Settings}
use Rattle.definition.specs.declared.Report.{Report}

-- the working set that is chosen at a state, and the violation it is chosen by
abbrev pub set_at : Task → Settings → State → List ℕ
set_at T S s = chosen_set T S s.inner.point

abbrev pub worst_at : Task → State → Float
worst_at T s = worst T s.inner.point.weights s.inner.point.fit

-- what a visit of feature j at q adds to its weight, and the fit after it
abbrev pub difference : Task → Point → ℕ → Float
difference T q j = new_weight T q j ⊖ at q.weights j

abbrev pub moved_fit : Task → Point → ℕ → List Float
moved_fit T q j = moved T.X j (difference T q j) q.fit

module _ (T : Task) (y : List Float) (S : Settings) where
  -- ---- where the run comes to
  -- turn t begins at state s
  pub record Turns (t : ℕ) (s : State) : Type 0 where
    pub inside : t ≤ S.iterations
    pub reached : upto (turn T y S) t (start T S) ≡ going s

  -- and its check does not end the run: an iteration follows
  pub record Iterates (t : ℕ) (s : State) : Type 0 where
    pub turns : Turns t s
    pub known : all_known T s.inner.point.weights s.inner.point.fit ≡ true
    pub above : le (worst_at T s) S.tolerance ≡ false
    pub more : t < S.iterations

  -- epoch e of an iteration from state s begins at i
  pub record Epochs (s : State) (e : ℕ) (i : Inner) : Type 0 where
    pub turn : ℕ
    pub iterates : Iterates turn s
    pub inside : e < S.epochs
    pub reached : upto (epoch T y S (set_at T S s) (worst_at T s)) e s.inner ≡ going i

  -- the feature at a place of the working set is visited at point q, and not skipped
  pub data Visited : Point → ℕ → Type 0 where
    visited : {s : State} {e : ℕ} {i : Inner} → Epochs s e i → (place : ℕ) → place < length (set_at T S s) → {q : Point}
        → upto (λ k. visit T (get_or (set_at T S s) k 0)) place i.point ≡ going q
        → eq (Epoch.constant T (get_or (set_at T S s) place 0)) #0 ≡ false
        → Visited q (get_or (set_at T S s) place 0)

  -- a feature's violation is looked at, at a point
  pub data Checked : Point → ℕ → Type 0 where
    -- by the check that a turn begins with: of every feature
    of_turn : {t : ℕ} {s : State} → Turns t s → (j : ℕ) → j < T.p → Checked s.inner.point j
    -- by the check of an epoch "when epoch is above 0 and divisible by 10": of the working set, after all visits and the extrapolation step
    of_epoch : {s : State} {e : ℕ} {i : Inner} → Epochs s e i → checks e ≡ true → {q : Point} → visits T (set_at T S s) i.point ≡ going q
        → (place : ℕ) → place < length (set_at T S s) → Checked (accelerated T y S (set_at T S s) e i q).point (get_or (set_at T S s) place 0)

  -- a feature's gradient is looked at: at a check, and at a visit
  pub data Looked : Point → ℕ → Type 0 where
    at-check : {q : Point} {j : ℕ} → Checked q j → Looked q j
    at-visit : {q : Point} {j : ℕ} → Visited q j → Looked q j

  -- ---- the number that is not finite
  pub data NotFinite : Type 0 where
    -- "gradient, violation"
    gradient : {q : Point} {j : ℕ} → Looked q j → finite (gradient_of T q.fit j) ≡ false → NotFinite
    violation : {q : Point} {j : ℕ} → Checked q j → finite (violation_of T q.weights q.fit j) ≡ false → NotFinite
    -- "new weight or changed fit entry": "if the difference is nonzero the fit gains difference·x", so the entries of column j's samples are changed
    weight : {q : Point} {j : ℕ} → Visited q j → finite (new_weight T q j) ≡ false → NotFinite
    fit : {q : Point} {j : ℕ} → Visited q j → eq (difference T q j) #0 ≡ false
        → (k : ℕ) → k < T.X.many j → finite (at (moved_fit T q j) (T.X.row j k)) ≡ false → NotFinite

-- how a solve ends: its run is over, and it is given up exactly where it comes to such a number
pub record SolveEnds (T : Task) (y : List Float) (S : Settings) : Type 0 where
  pub ends : over (run T y S) ≡ true
  pub only : (number place : ℕ) → solved T y S ≡ given_up number place → NotFinite T y S
  pub whenever : NotFinite T y S → solved T y S ≡ given_up 7 0

-- refusal 7 of a solve, on any numbers handed to it
pub record Seven (g : Given) (S : Settings) (handed : List Float) (b : Lent) : Type 0 where
  -- it is given only where the run comes to such a number
  pub only : (place : ℕ) → solve_call g S handed b ≡ refused 7 place → NotFinite (task_of g S handed) g.targets S
  -- and there always, unless 1 to 6 or 10 came before
  pub whenever : solve_fault g S handed b ≡ none → NotFinite (task_of g S handed) g.targets S → solve_call g S handed b ≡ refused 7 0
  -- a solve that answers met none
  pub answers : (r : Report) → solve_call g S handed b ≡ answered r → NotFinite (task_of g S handed) g.targets S → ⊥

-- ---- the preparation
-- "a Lipschitz constant, the inverse of a nonzero one, X'y entry" is not finite
pub data NotPrepared (g : Given) : Type 0 where
  constant : (j : ℕ) → j < g.shape.p → finite (at (prepared_of g) j) ≡ false → NotPrepared g
  inverse : (j : ℕ) → j < g.shape.p → eq (at (prepared_of g) j) #0 ≡ false → finite (#1 ⊘ at (prepared_of g) j) ≡ false → NotPrepared g
  xty : (j : ℕ) → j < g.shape.p → finite (at (prepared_of g) (g.shape.p + j)) ≡ false → NotPrepared g

-- refusal 7 of a preparation
pub record PreparationSeven (g : Given) (buf : List Float) : Type 0 where
  -- it is given only where one of these is not finite
  pub only : (place : ℕ) → prepare_call g buf ≡ refused 7 place → NotPrepared g
  -- and there always, unless 1 to 6 came before
  pub whenever : preparation_fault g buf ≡ none → NotPrepared g → prepare_call g buf ≡ refused 7 0
  -- a preparation that answers met none
  pub answers : prepare_call g buf ≡ none → NotPrepared g → ⊥
