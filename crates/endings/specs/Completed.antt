-- What a run that completes holds: p weights and n fit entries, all finite, and a finite violation, for any other number is refusal 7; and no fit entry
-- is -0, for a fit grows from +0 by sums.
use Rattle.std.specs.Prelude.{◌≡◌, true, false, List, ℕ, ◌<◌, length, Float}
use Rattle.doubles.specs.Num.{at, finite}
use Rattle.doubles.specs.Sign.{negzero}
use Rattle.doubles.specs.Answer.{answered}
use Rattle.designs.specs.Given.{Given}
use Rattle.definition.specs.Run.{State}
use Rattle.definition.specs.Call.{Lent, done, solve_end, solve_call, solve_left}
use Rattle.definition.specs.declared.Settings.{Settings}
use Rattle.definition.specs.declared.Report.{Report}

-- the p weights, n fit entries and violation of an answer: finite, and no fit entry is -0
pub record Finite (n p : ℕ) (weights fit : List Float) (violation : Float) : Type 0 where
  pub weight : (j : ℕ) → j < p → finite (at weights j) ≡ true
  pub entry : (i : ℕ) → i < n → finite (at fit i) ≡ true
  pub sign : (i : ℕ) → i < n → negzero (at fit i) ≡ false
  pub largest : finite violation ≡ true

-- of the state that a run ends with
pub record Completed (n p : ℕ) (s : State) : Type 0 where
  pub weights : length s.inner.point.weights ≡ p
  pub fit : length s.inner.point.fit ≡ n
  pub numbers : Finite n p s.inner.point.weights s.inner.point.fit s.violation

-- of a solve on any numbers handed to it: the state that it is done at, and what it answers and leaves in the first p weights and n fit entries
pub record CompletedCall (g : Given) (S : Settings) (handed : List Float) (b : Lent) : Type 0 where
  pub run : (e : State) → solve_end g S handed b ≡ done e → Completed g.shape.n g.shape.p e
  pub left : (r : Report) → solve_call g S handed b ≡ answered r
      → Finite g.shape.n g.shape.p (solve_left g S handed b).weights (solve_left g S handed b).fit r.violation
