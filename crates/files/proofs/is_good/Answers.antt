-- `is_good`: a whole field, and then its own tests. Assumes nothing.
use native.Mathlib.Omega.{arith}
use borrow.Author.Tests.{ne_eqb}
use Rattle.doubles.specs.Num.{◌and◌}
use Rattle.files.specs.Problem.{good_at}
use Rattle.files.proofs.is_good.Goals as goal

pub returns-then-is_whole : goal.returns-then-is_whole
unfolding good_at ◌and◌
returns-then-is_whole c =
    rw (← c.is_whole.ensures, c.if-is_whole.true, ne_eqb c.args.c.at 0 (λ z. let h = c.requires.3 in omega (arith, z))) c.is_field.ensures

pub returns-else-is_whole : goal.returns-else-is_whole
unfolding good_at ◌and◌
returns-else-is_whole c = rw (← c.is_whole.ensures, c.if-is_whole.false)
