-- "Status is 1 (met) .. , else 2 (spent)"
use Rattle.std.specs.Prelude.{ℕ, Bool, true, false}
use Rattle.definition.specs.declared.Status.{Status}
use Rattle.definition.specs.declared.Status.TheVariants.{Met, Spent}

abbrev pub status_number : Status → ℕ
status_number Met = 1
status_number Spent = 2

-- whether the tolerance was met
abbrev pub is_met : Status → Bool
is_met Met = true
is_met Spent = false
