-- `list::read_on` reads on: what is kept holds after each turn, and each turn leaves fewer. Assumes nothing.
use Rattle.std.proofs.Common.{◌≤◌}
use Rattle.list_reader.specs.ProgressWithin.{ProgressWithin}
use Rattle.list_reader.proofs.list.read_on.Given as goal

abbrev pub invariant-loop-p : goal.invariant-loop-p
invariant-loop-p g l = ProgressWithin l.p × (l.p.left ≤ l.initial.p.left)

abbrev pub decreases-loop-p : goal.decreases-loop-p
decreases-loop-p g l = l.p.left
