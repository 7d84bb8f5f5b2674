-- `list::replay` is safe and ends: what is kept holds at each record, and each record leaves fewer turns. Assumes nothing.
use Rattle.list_reader.specs.ProgressWithin.{ProgressWithin}
use Rattle.list_reader.proofs.list.replay.Given as goal

abbrev pub invariant-loop-p : goal.invariant-loop-p
invariant-loop-p g l = ProgressWithin l.p

abbrev pub decreases-loop-p : goal.decreases-loop-p
decreases-loop-p g l = l.p.left
