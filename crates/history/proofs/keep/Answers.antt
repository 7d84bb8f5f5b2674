-- `keep`: the invariant is the working set's weights gathered so far, put where the row begins. Assumes nothing.
use mathlib.Core.Path.{ap, ◌∙◌}
use native.Mathlib.Omega.{arith}
use Rattle.doubles.specs.Num.{at}
use lib.Ieee.{nan}
use Rattle.doubles.proofs.Laws.Buffer.{put-none, put-more}
use Rattle.history.proofs.keep.Goals as goal

pub loop-i-init : goal.loop-i-init
loop-i-init c = put-none _ _ _

pub loop-i-preserved : goal.loop-i-preserved
loop-i-preserved c =
    let gathered = c.weight.ensures ∙ ap (at c.args.w.now) c.feature_of.ensures in
    rw c.loop-i.invariant (put-more _ _ _ _ nan (omega arith) _ gathered)
