-- `read_fields`: the invariant is that what was read so far leads to what the whole file gives. Assumes nothing.
use Prim.Native.Nat.{◌-◌}
use lib.ListN.{length}
use Rattle.files.proofs.Laws.Walk.{Walked}
use Rattle.files.proofs.read_fields.Given as goal

abbrev pub invariant-loop-layout : goal.invariant-loop-layout
invariant-loop-layout l =
    Walked l.file l.keep l.initial.targets l.initial.values l.initial.starts l.initial.rows l.targets l.values l.starts l.rows l.c

abbrev pub decreases-loop-layout : goal.decreases-loop-layout
decreases-loop-layout l = length l.file - l.c.at
