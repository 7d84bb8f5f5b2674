-- One alpha in place of another: where both are in their range, or neither is, the penalty is refused alike; and only the last one counts. Assumes nothing.
use mathlib.Core.Path.{◌≡◌, refl}
use mathlib.Core.Bool.{true}
use lib.Ieee.{Float, of_bits, le}
use Rattle.doubles.specs.Num.{#0, finite, ◌and◌}
use Rattle.penalties.specs.Penalty.{alpha_legal, with_alpha, second_legal, penalty_fault}
use Rattle.penalties.specs.declared.separable.Penalty.{Penalty}
use Rattle.penalties.specs.declared.separable.Penalty.TheVariants.{L1, L1PlusL2, MCP}

pub another_alpha : (P : Penalty) (a b : Float) → alpha_legal a ≡ alpha_legal b → penalty_fault (with_alpha P a) ≡ penalty_fault (with_alpha P b)
unfolding penalty_fault second_legal
another_alpha (L1 alpha) a b e = rw e
another_alpha (L1PlusL2 alpha r) a b e = rw e
another_alpha (MCP alpha gamma) a b e = rw e

pub alpha_again : (P : Penalty) (a b : Float) → with_alpha (with_alpha P a) b ≡ with_alpha P b
alpha_again (L1 alpha) a b = refl
alpha_again (L1PlusL2 alpha r) a b = refl
alpha_again (MCP alpha gamma) a b = refl

pub zero-legal : alpha_legal #0 ≡ true
unfolding alpha_legal finite ◌and◌ of_bits le
zero-legal = refl
