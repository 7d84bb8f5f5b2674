-- `put_text`: the text is copied to its part of the buffer. Assumes nothing.
use Rattle.listings.proofs.Laws.Chain.{wrote_text}
use Rattle.listings.proofs.inner.put_text.Goals as goal

pub returns : goal.returns
returns c = wrote_text _ _ _ _ c.copy_from_slice.ensures.after c.requires.fits
