-- Refusal 10 of a solve: "the solve tests 10 after 6, changing nothing (a prepared number not finite, a negative constant, or a nonzero one with an
-- inverse not finite; place: first such column)".
use Rattle.std.specs.Prelude.{◌≡◌, true, false, List, ℕ, ◌<◌, Float}
use Rattle.doubles.specs.Answer.{refused, none}
use Rattle.designs.specs.Given.{Given}
use Rattle.definition.specs.Call.{Lent, acceptable_at, solve_tests, solve_call, solve_left}
use Rattle.definition.specs.declared.Settings.{Settings}

-- "first such column"
pub record FirstSuch (p : ℕ) (handed : List Float) (place : ℕ) : Type 0 where
  pub column : place < p
  pub fails : acceptable_at p handed place ≡ false
  pub before : (j : ℕ) → j < place → acceptable_at p handed j ≡ true

pub record Ten (g : Given) (S : Settings) (handed : List Float) (b : Lent) : Type 0 where
  -- it is given only behind 1 to 6, and at the first such column
  pub only : (place : ℕ) → solve_call g S handed b ≡ refused 10 place → (solve_tests g S handed b ≡ none) × FirstSuch g.shape.p handed place
  -- and there always
  pub whenever : (place : ℕ) → solve_tests g S handed b ≡ none → FirstSuch g.shape.p handed place → solve_call g S handed b ≡ refused 10 place
  -- "changing nothing"
  pub unchanged : (place : ℕ) → solve_call g S handed b ≡ refused 10 place → solve_left g S handed b ≡ b
