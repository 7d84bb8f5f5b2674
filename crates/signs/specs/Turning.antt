-- Demand 3: "turn all targets, or .. any set of columns, or both: same refusal and place, or same status, counts, violation and working sets, and
-- weights and fit turn as they must (a zero's own sign disregarded)". Since request 5 "demand 3 speaks of that pair": preparing and then solving. Since
-- request 3 "column signs .. hold with extrapolation on as well": there is no condition on the settings.
use Rattle.std.specs.Prelude.{◌≡◌, Bool, false, List, [], ◌∷◌, ℕ, suc, ◌+◌, ◌%◌, ◌<◌, leb, length, get_or, Float}
use Rattle.std.specs.Float.Ieee.{unlike}
use Rattle.doubles.specs.Num.{at, pick}
use Rattle.doubles.specs.Sign.{flip, Turned, Signs}
use Rattle.doubles.specs.Steps.{steps, zeros}
use Rattle.doubles.specs.Buffer.{put}
use Rattle.doubles.specs.Answer.{refused, none}
use Rattle.designs.specs.Given.{Given, given, design_of}
use Rattle.designs.specs.declared.Layout.{Layout}
use Rattle.designs.specs.declared.Layout.TheVariants.{Dense, Csc}
use Rattle.designs.specs.declared.Shape.{Shape}
use Rattle.definition.specs.Run.{State}
use Rattle.definition.specs.Preparation.{prepare_call, prepare_left}
use Rattle.definition.specs.Call.{Lent, solve_fault, solve_end, report_of, solve_call, solve_left}
use Rattle.definition.specs.Pair.{pair_end, pair_call, pair_left}
use Rattle.definition.specs.Walk.{walk_tests, walk_end, walk_call, walk_left, walk_numbers}
use Rattle.definition.specs.declared.Settings.{Settings}
use Rattle.two_runs.specs.Stages.{Ends}

-- what is given, with other numbers
abbrev pub with_numbers : Given → List Float → List Float → Given
with_numbers g values y = given g.shape g.starts g.rows values y

-- the second call is given the first one's numbers turned: column j where c j is true, and the targets where t is
pub record Turning (c : ℕ → Bool) (t : Bool) (g : Given) (values' y' : List Float) : Type 0 where
  -- the stored values differ in signs alone, also where no column holds them
  pub signs : ℕ → Bool
  pub stored : Signs signs g.values values'
  -- "any set of columns": the stored entries of each, in either layout
  pub columns : (j k : ℕ) → j < g.shape.p → k < (design_of g).many j
      → Turned (c j) ((design_of g).value j k) ((design_of (with_numbers g values' y')).value j k)
  -- "all targets"
  pub targets : Signs (λ (i : ℕ). t) g.targets y'

-- as many numbers are handed to the second solve: the same p constants, and the p entries of X'y turned where column or targets are, but not both
pub record HandedTurning (c : ℕ → Bool) (t : Bool) (p : ℕ) (handed handed' : List Float) : Type 0 where
  pub size : length handed ≡ length handed'
  pub constants : (j : ℕ) → j < p → at handed j ≡ at handed' j
  pub products : (j : ℕ) → j < p → Turned (unlike (c j) t) (at handed (p + j)) (at handed' (p + j))

-- "same status, counts, violation and working sets, and weights and fit turn as they must", of the states that two runs end with
pub record SameRun (c : ℕ → Bool) (t : Bool) (S : Settings) (s s' : State) : Type 0 where
  pub status : (report_of S s).status ≡ (report_of S s').status
  pub iterations : (report_of S s).iterations ≡ (report_of S s').iterations
  pub epochs : (report_of S s).epochs ≡ (report_of S s').epochs
  pub extrapolations : (report_of S s).extrapolations ≡ (report_of S s').extrapolations
  pub violation : (report_of S s).violation ≡ (report_of S s').violation
  -- of every outer iteration
  pub sets : s.sets ≡ s'.sets
  -- weight j where its column or the targets turn, but not where both do; the fit as the targets
  pub weights : Signs (λ (j : ℕ). unlike (c j) t) s.inner.point.weights s'.inner.point.weights
  pub fit : Signs (λ (i : ℕ). t) s.inner.point.fit s'.inner.point.fit

-- the p weights and n fit entries that two calls leave turn likewise
pub record SameLeft (c : ℕ → Bool) (t : Bool) (s : Shape) (b b' : Lent) : Type 0 where
  pub weights : (j : ℕ) → j < s.p → Turned (unlike (c j) t) (at b.weights j) (at b'.weights j)
  pub fit : (i : ℕ) → i < s.n → Turned t (at b.fit i) (at b'.fit i)

-- what demand 3 says of two solves, each with the same buffers, on any numbers that turn likewise
pub record SameSolve (c : ℕ → Bool) (t : Bool) (g g' : Given) (S : Settings) (handed handed' : List Float) (b : Lent) : Type 0 where
  -- "same refusal and place", of 1 to 6 and 10; and of 7 too, for the answers are the same
  pub refusal : solve_fault g S handed b ≡ solve_fault g' S handed' b
  pub answer : solve_call g S handed b ≡ solve_call g' S handed' b
  -- both untouched, both given up, or both done
  pub run : Ends (SameRun c t S) (solve_end g S handed b) (solve_end g' S handed' b)
  -- what is left where the tests do not refuse: 7 leaves zeros
  pub left : solve_fault g S handed b ≡ none → SameLeft c t g.shape (solve_left g S handed b) (solve_left g' S handed' b)

-- a preparation's 7 "leaves the 2p numbers zero", and then "weights and fit are untouched"
pub record LeftBySeven (g : Given) (S : Settings) (buf : List Float) (b : Lent) : Type 0 where
  pub numbers : prepare_left g buf ≡ put buf 0 (zeros (g.shape.p + g.shape.p))
  pub others : pair_left g S buf b ≡ b

-- what demand 3 says of the two pairs, each with the same buffers
pub record SameCall (c : ℕ → Bool) (t : Bool) (g g' : Given) (S : Settings) (buf : List Float) (b : Lent) : Type 0 where
  -- "same refusal and place": of both preparations; of both solves, by their tests; and of the pairs
  pub preparation : prepare_call g buf ≡ prepare_call g' buf
  pub refusal : solve_fault g S (prepare_left g buf) b ≡ solve_fault g' S (prepare_left g' buf) b
  pub answer : pair_call g S buf b ≡ pair_call g' S buf b
  -- both untouched, both given up, or both done
  pub run : Ends (SameRun c t S) (pair_end g S buf b) (pair_end g' S buf b)
  -- what is prepared, where the preparations answer
  pub prepared : prepare_call g buf ≡ none → HandedTurning c t g.shape.p (prepare_left g buf) (prepare_left g' buf)
  -- what is left, where no test refuses: the run's 7 leaves zeros
  pub left : prepare_call g buf ≡ none → solve_fault g S (prepare_left g buf) b ≡ none
      → SameLeft c t g.shape (pair_left g S buf b) (pair_left g' S buf b)
  -- and after the preparations' 7
  pub seven : (place : ℕ) → prepare_call g buf ≡ refused 7 place → LeftBySeven g S buf b × LeftBySeven g' S buf b

-- what follows for two walks over one list of alphas, each with the same buffers (request 7)
pub record SameWalk (c : ℕ → Bool) (t : Bool) (g g' : Given) (S : Settings) (alphas : List Float) (most : ℕ) (buf : List Float) (b : Lent) : Type 0 where
  -- "same refusal and place", of 1 to 6; and of 11 too, for the answers are the same: the position, and its fit's report
  pub refusal : walk_tests g S alphas buf b ≡ walk_tests g' S alphas buf b
  pub answer : walk_call g S alphas most buf b ≡ walk_call g' S alphas most buf b
  -- both untouched, both given up, or both done
  pub run : Ends (SameRun c t S) (walk_end g S alphas most buf b) (walk_end g' S alphas most buf b)
  -- what is left where the tests do not refuse: 11 leaves zeros
  pub left : walk_tests g S alphas buf b ≡ none → SameLeft c t g.shape (walk_left g S alphas most buf b) (walk_left g' S alphas most buf b)
  pub numbers : walk_numbers g S alphas buf b ≡ walk_numbers g' S alphas buf b

-- ---- the plain way to turn: xs with place k negated where s k is true
unfoldable pub turned : (ℕ → Bool) → List Float → List Float
turned s [] = []
turned s (x ∷ xs) = flip (s 0) x ∷ turned (λ (k : ℕ). s (suc k)) xs

-- the signs of stored values, by the columns: a dense design's place k · p + j is in column j, and a CSC design's in the last column that starts
-- at or before it
unfoldable pub signs_of : Layout → (ℕ → Bool) → ℕ → List ℕ → ℕ → Bool
signs_of Dense c p starts i = c (i % p)
signs_of Csc c p starts i = steps (λ j b. pick (leb (get_or starts j 0) i) (c j) b) p false
