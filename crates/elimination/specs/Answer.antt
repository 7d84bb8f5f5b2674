-- What the answers of an elimination stand for.
use Rattle.std.specs.Prelude.{List, Float, Result, Ok, Err}
use Rattle.doubles.specs.Answer.{Outcome, refused, answered, number}
use Rattle.elimination.specs.declared.helpers.Unsolved.{Unsolved}
use Rattle.elimination.specs.declared.helpers.NoSolution.{NoSolution}

-- how an elimination ended
pub data Ended : Type 0 where
  singular solved : Ended

-- with the ten places of its solution
pub record Eliminated : Type 0 where
  pub ending : Outcome Ended
  pub z : List Float

abbrev pub ending_of : Unsolved → Outcome Ended
ending_of (Unsolved.Refused r) = refused (number r.reason) r.place
ending_of Unsolved.Singular = answered singular

abbrev pub solution_of : Result (List Float) NoSolution → Eliminated
solution_of (Ok z) = record { ending = answered solved; z = z }
solution_of (Err n) = record { ending = ending_of n.why; z = n.z }
