-- `put_entry_lines`: the invariant is the lines of the entries passed. Assumes nothing.
use Rattle.listings.specs.Listing.{entry_lines}
use Rattle.listings.specs.Inner.Wrote.{Wrote}
use Rattle.listings.proofs.inner.put_entry_lines.Given as goal

abbrev pub invariant-loop-i : goal.invariant-loop-i
invariant-loop-i l = Wrote l.initial.out l.out l.at l.here (entry_lines l.name l.xs l.i)
