-- `divide`: each place by itself, upward. Assumes nothing.
use mathlib.Core.Path.{refl}
use Prim.Native.Nat.{◌<◌}
use lib.Ieee.{nan}
use lib.ListN.{length}
use Rattle.doubles.proofs.Laws.Steps.{tab-none, tab_here, tab-more, tab-all}
use native.Mathlib.Omega.{arith}
use borrow.Author.Rules.{rules}
use Rattle.passes.proofs.divide.Goals as goal

pub loop-x-init : goal.loop-x-init
loop-x-init c = tab-none _ _

pub loop-x-preserved : goal.loop-x-preserved
loop-x-preserved c =
    let h : c.loop-x.x-index < length c.args.buf.now = omega arith in
    rw (tab_here _ _ _ _ c.loop-x.invariant nan h) (tab-more _ _ _ _ c.loop-x.invariant _ h refl)

pub returns : goal.returns
returns c = tab-all _ _ _ _ c.loop-x.invariant _ refl (search rules) (search rules)
