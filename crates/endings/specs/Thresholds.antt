-- Request 8: "Fits never reach it with NaN, since constants and their inverses are tested first, so their answers stay the same." Since request 5 refusal
-- 10 of the solve tests them. In a run only a visit calls a prox; this is what holds of each that is not given up before.
use Rattle.std.specs.Prelude.{◌≡◌, false, ℕ, Float}
use Rattle.std.specs.Float.Ieee.{is_nan}
use Rattle.doubles.specs.Num.{◌⊖◌, ◌⊘◌, #1, at}
use Rattle.penalties.specs.Prox01.{threshold_of, prox01}
use Rattle.definition.specs.Epoch.{Task, Point, constant, gradient_of, new_weight}

-- "w becomes prox(w − g/L, 1/L)": the value, and the step
abbrev pub value_at : Task → Point → ℕ → Float
value_at T q j = at q.weights j ⊖ gradient_of T q.fit j ⊘ constant T j

abbrev pub step_at : Task → ℕ → Float
step_at T j = #1 ⊘ constant T j

-- a visit of feature j at q hands the prox no NaN, and gets from it what document 01's soft threshold gives
pub record AsBefore (T : Task) (q : Point) (j : ℕ) : Type 0 where
  pub value : is_nan (value_at T q j) ≡ false
  pub step : is_nan (step_at T j) ≡ false
  pub threshold : is_nan (threshold_of T.penalty (step_at T j)) ≡ false
  pub weight : new_weight T q j ≡ prox01 T.penalty (value_at T q j) (step_at T j)
