-- The check of a sparse design alone.
use Rattle.std.specs.Prelude.{true}
use Rattle.doubles.specs.Answer.{Fault}
use Rattle.designs.specs.Given.{Given}
use Rattle.designs.specs.Checks.{admitted}

-- refusals 1, 4, 5 and 6 in their order: no lent buffer, and it is given no targets; the place of a stored value is still "n + position in values"
abbrev pub design_fault : Given → Fault
design_fault g = admitted g true true
