-- `is_wanted`: the status, then the count. Assumes nothing.
use mathlib.Core.Path.{◌≡◌, refl}
use denote.Enum.Bare.{sameb}
use Rattle.doubles.specs.Num.{◌and◌}
use Rattle.definition.specs.Status.{is_met}
use Rattle.definition.specs.contracts.Status.{the_type}
use Rattle.definition.specs.declared.Status.{Status}
use Rattle.definition.specs.declared.Status.TheVariants.{Met, Spent}
use Rattle.definition.specs.Walk.{wanted}
use Rattle.decisions.proofs.is_wanted.Goals as goal

-- the test `== Met` is the definition's
met : (s : Status) → sameb the_type s Met ≡ is_met s
met Met = refl
met Spent = refl

pub returns-then-eq : goal.returns-then-eq
unfolding wanted ◌and◌
returns-then-eq c = rw (← met _, ← c.eq.ensures, c.if-eq.true)

pub returns-else-eq : goal.returns-else-eq
unfolding wanted ◌and◌
returns-else-eq c = rw (← met _, ← c.eq.ensures, c.if-eq.false)
