-- Refusal 11 of a walk, and what a walk answers: "It is refused exactly if no alpha in the list has that property, judged by the fit's definition". The
-- property is told here by what preparing and then solving with the alpha alone answers and leaves.
use Rattle.std.specs.Prelude.{◌≡◌, false, ◌⊎◌, List, ℕ, ◌≤◌, ◌<◌, length, take, Float}
use Rattle.std.specs.Float.Ieee.{lt}
use Rattle.doubles.specs.Num.{at}
use Rattle.doubles.specs.Steps.{zeros}
use Rattle.doubles.specs.Answer.{refused, answered, none}
use Rattle.designs.specs.Given.{Given}
use Rattle.definition.specs.WorkingSet.{nonzeros}
use Rattle.definition.specs.Call.{Lent, filled}
use Rattle.definition.specs.Pair.{pair_call, pair_left}
use Rattle.definition.specs.Walk.{at_alpha, walk_tests, walk_call, walk_left, walk_numbers}
use Rattle.definition.specs.declared.Settings.{Settings}
use Rattle.definition.specs.declared.Status.TheVariants.{Met}
use Rattle.definition.specs.declared.Report.{Report}
use Rattle.definition.specs.declared.Usable.{Usable}

module _ (g : Given) (S : Settings) (alphas : List Float) (most : ℕ) (buf : List Float) (b : Lent) where
  -- the settings with the alpha at place k
  abbrev pub settings_at : ℕ → Settings
  settings_at k = at_alpha S (at alphas k)

  -- "at most m nonzero weights with status 1"
  pub record Property (k : ℕ) : Type 0 where
    pub inside : k < length alphas
    pub report : Report
    pub answers : pair_call g (settings_at k) buf b ≡ answered report
    pub met : report.status ≡ Met
    pub few : nonzeros (take g.shape.p (pair_left g (settings_at k) buf b).weights) ≤ most

  -- an answer: "the largest that gives at most m nonzero weights with status 1", "the position in the list with its weights, fit and report"
  pub record AsAlone (u : Usable) : Type 0 where
    -- its alpha has the property, and none before it
    pub property : Property u.position
    pub before : (k : ℕ) → k < u.position → Property k → ⊥
    -- and so it is the largest: none with the property is above it, for the list falls
    pub largest : (k : ℕ) → Property k → lt (at alphas u.position) (at alphas k) ≡ false
    -- preparing and then solving with that alpha alone answers the same report, and leaves the same in weights, fit, indices and scratch, bit for bit
    pub answers : pair_call g (settings_at u.position) buf b ≡ answered u.report
    pub left : pair_left g (settings_at u.position) buf b ≡ walk_left g S alphas most buf b

  pub record Eleven : Type 0 where
    -- "refused exactly if no alpha in the list has that property"
    pub only : (place : ℕ) → walk_call g S alphas most buf b ≡ refused 11 place
        → (walk_tests g S alphas buf b ≡ none) × (place ≡ 0) × ((k : ℕ) → Property k → ⊥)
    pub whenever : walk_tests g S alphas buf b ≡ none → ((k : ℕ) → Property k → ⊥) → walk_call g S alphas most buf b ≡ refused 11 0
    -- "which leaves weights and fit zero"
    pub zero : (place : ℕ) → walk_call g S alphas most buf b ≡ refused 11 place
        → walk_left g S alphas most buf b ≡ filled g.shape S b (zeros g.shape.p) (zeros g.shape.n)
    -- where it is not refused
    pub answers : (u : Usable) → walk_call g S alphas most buf b ≡ answered u → AsAlone u
    -- 1 to 6 are its tests', and change nothing
    pub tests : (number place : ℕ) → number ≤ 6 → walk_call g S alphas most buf b ≡ refused number place
        → (walk_tests g S alphas buf b ≡ refused number place) × (walk_left g S alphas most buf b ≡ b) × (walk_numbers g S alphas buf b ≡ buf)
    -- there is no other number: 7 and 10 are no refusals of a walk
    pub no_other : (number place : ℕ) → walk_call g S alphas most buf b ≡ refused number place → (number ≤ 6) ⊎ (number ≡ 11)
    -- "The settings' alpha is neither used nor tested": with any other in its place the walk answers and leaves the same
    pub alpha_unused : (alpha : Float) → (walk_call g (at_alpha S alpha) alphas most buf b ≡ walk_call g S alphas most buf b)
        × (walk_left g (at_alpha S alpha) alphas most buf b ≡ walk_left g S alphas most buf b)
        × (walk_numbers g (at_alpha S alpha) alphas buf b ≡ walk_numbers g S alphas buf b)
