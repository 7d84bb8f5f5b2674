-- `ahead`: the tests are the definition's. Assumes nothing.
use mathlib.Core.Path.{refl}
use Rattle.doubles.specs.Num.{◌and◌, ◌or◌}
use Rattle.selection.specs.Inner.Heap.{ahead}
use Rattle.selection.proofs.ahead.Goals as goal

pub returns : goal.returns
unfolding ahead ◌or◌ ◌and◌
returns c = refl
