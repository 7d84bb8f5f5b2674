-- `prepare`: the constants into the first half, X'y into the second. Assumes nothing.
use Rattle.designs.proofs.Laws.Layouts.{samples, features}
use Rattle.passes.proofs.Laws.Rows.{halves}
use Rattle.passes.proofs.prepare.Goals as goal

pub returns : goal.returns
returns c =
    halves _ _ _ (samples _ _ _ _ _ _) (features _ _ _ _ _ _) _ c.constants.new.buf
    c.all_dots.new.buf c.args.buf.now c.constants.ensures
    c.all_dots.ensures c.requires.1
