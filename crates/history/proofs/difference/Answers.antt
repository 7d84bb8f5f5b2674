-- `difference`: a place of two rows, one behind the other. Assumes nothing.
use native.Mathlib.Numerals.{add-one}
use Rattle.history.proofs.difference.Goals as goal

pub returns : goal.returns
returns c = rw (c.kept_weight.ensures, c.kept_weight-2.ensures, add-one)
