-- What a call is given: a design, as its shape and three slices, and the targets. A call without targets has none.
use Rattle.std.specs.Prelude.{ℕ, List, Float, Result, Ok, Err}
use Rattle.doubles.specs.Answer.{Fault, none, refused, number}
use Rattle.doubles.specs.declared.Refusal.{Refusal}
use Rattle.designs.specs.declared.Matrix.{Matrix}
use Rattle.designs.specs.Design.{Design, design}
use Rattle.designs.specs.declared.Shape.{Shape}

pub record Given : Type 0 where
  pub shape : Shape
  pub starts : List ℕ
  pub rows : List ℕ
  pub values : List Float
  pub targets : List Float

abbrev pub given : Shape → List ℕ → List ℕ → List Float → List Float → Given
given s starts rows values y = record { shape = s; starts = starts; rows = rows; values = values; targets = y }

-- the design alone
abbrev pub design_of : Given → Design
design_of g = design g.shape g.starts g.rows g.values

-- a design and its targets as a caller hands them
abbrev pub handed : Matrix → List Float → Given
handed x y = given x.shape x.starts.now x.rows.now x.values.now y

-- what tests found that answer more than that they passed
abbrev pub fault_of : {A : Type 0} → Result A Refusal → Fault
fault_of (Err r) = refused (number r.reason) r.place
fault_of (Ok a) = none
