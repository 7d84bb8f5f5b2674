-- The numbers of the faults: the tests give none above 6. Assumes nothing.
use mathlib.Core.Bool.{Bool}
use mathlib.Core.List.{List}
use Prim.Native.Nat.{ℕ, ◌≤◌}
use lib.Dec.{lit≤}
use lib.ListN.{length}
use lib.Ieee.{Float}
use Rattle.doubles.specs.Answer.{Fault}
use Rattle.doubles.proofs.Laws.Verdict.{AtMost, none_most, refused_most, unless_most}
use Rattle.designs.specs.Given.{Given}
use Rattle.designs.specs.Checks.{told, bad_starts, bad_rows, not_finite, numbers, csc_fault, contents, sized_fault}
use Rattle.std.specs.Prelude.{Option, Some, None}
use Rattle.designs.specs.declared.Layout.{Layout}
use Rattle.designs.specs.declared.Layout.TheVariants.{Dense, Csc}

pub told_most : {m : ℕ} (number : ℕ) → number ≤ m → {f : Fault} (r : Option ℕ) → AtMost m f → AtMost m (told number r f)
told_most number h (Some i) k = refused_most h i
told_most number h None k = k

numbers_most : (n : ℕ) (values y : List Float) → AtMost 6 (numbers n values y)
unfolding numbers
numbers_most n values y = told_most 6 (lit≤ tt) (not_finite y 0) (told_most 6 (lit≤ tt) (not_finite values n) (none_most 6))

contents_most : (l : Layout) (g : Given) → AtMost 6 (contents l g)
unfolding contents csc_fault
contents_most Dense g = numbers_most g.shape.n g.values g.targets
contents_most Csc g =
    told_most 4 (lit≤ tt) (bad_starts g.starts (length g.values))
    (told_most 5 (lit≤ tt) (bad_rows g.shape.n g.shape.p g.starts g.rows) (numbers_most g.shape.n g.values g.targets))

pub sized_most : (g : Given) (room : Bool) → AtMost 6 (sized_fault g room)
unfolding sized_fault
sized_most g room = unless_most 3 (lit≤ tt) room (contents_most g.shape.layout g)
