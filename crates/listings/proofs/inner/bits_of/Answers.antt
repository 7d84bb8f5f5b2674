-- `bits_of`: a NaN is tested first. Assumes nothing.
use mathlib.Core.Path.{sym}
use Rattle.listings.specs.Listing.{bits_of}
use Rattle.listings.proofs.inner.bits_of.Goals as goal

pub returns-then-is_nan : goal.returns-then-is_nan
unfolding bits_of
returns-then-is_nan c = rw (sym c.if-is_nan.ensures.value)

pub returns-else-is_nan : goal.returns-else-is_nan
unfolding bits_of
returns-else-is_nan c = rw (sym c.if-is_nan.ensures.value)
