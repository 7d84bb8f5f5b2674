-- `end_line`: the newline is its one byte. Assumes nothing.
use Rattle.listings.specs.Listing.{newline, codes}
use Rattle.listings.proofs.inner.end_line.Goals as goal

pub put_text-requires : goal.put_text-requires
unfolding newline codes
put_text-requires c = record { fits = c.requires.fits }

pub returns : goal.returns
unfolding newline codes
returns c = c.put_text.ensures
