-- `add_squares`: each running sum gains its square of the row, upward. Assumes nothing.
use mathlib.Core.Path.{refl}
use Prim.Native.Nat.{◌<◌}
use lib.Ieee.{nan}
use lib.ListN.{length}
use Rattle.doubles.proofs.Laws.Steps.{tab-none, tab_here, tab-more, tab-all}
use native.Mathlib.Omega.{arith}
use borrow.Author.Rules.{rules}
use Rattle.passes.proofs.add_squares.Goals as goal

pub loop-j-init : goal.loop-j-init
loop-j-init c = tab-none _ _

pub loop-j-preserved : goal.loop-j-preserved
loop-j-preserved c =
    let h : c.loop-j.j < length c.args.buf.now = omega arith in
    rw (tab_here _ _ _ _ c.loop-j.invariant nan h) (tab-more _ _ _ _ c.loop-j.invariant _ h refl)

pub returns : goal.returns
returns c = tab-all _ _ _ _ c.loop-j.invariant _ refl (search rules) (search rules)
