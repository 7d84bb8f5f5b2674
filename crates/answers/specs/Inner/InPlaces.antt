-- What the contract of the inner function is stated with: the problem by its sizes and the places that hold its arrays.
use Rattle.std.specs.Prelude.{List, ℕ, ◌≤◌, take, Float}
use Rattle.doubles.specs.Answer.{answered}
use Rattle.designs.specs.Given.{given}
use Rattle.files.specs.Call.{Problem}
use Rattle.files.specs.declared.Sizes.{Sizes}
use Rattle.answers.specs.Printed.{printed_for}

-- its arrays lie in the first places, and its sizes are the program's
pub record ProblemInside (z : Sizes) (a b c d : ℕ) : Type 0 where
  pub targets : z.counts.targets ≤ a
  pub values : z.counts.values ≤ b
  pub starts : z.counts.starts ≤ c
  pub rows : z.counts.rows ≤ d
  pub samples : z.shape.n ≤ 256
  pub features : z.shape.p ≤ 32

abbrev pub problem_in : Sizes → List Float → List Float → List ℕ → List ℕ → Problem
problem_in z targets values starts rows = record {
  given = given z.shape (take z.counts.starts starts) (take z.counts.rows rows) (take z.counts.values values) (take z.counts.targets targets);
  settings = z.settings;
}

-- the text that is printed for it
abbrev pub printed_in : Sizes → List Float → List Float → List ℕ → List ℕ → List ℕ
printed_in z targets values starts rows = printed_for (answered (problem_in z targets values starts rows))
