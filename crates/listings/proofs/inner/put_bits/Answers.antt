-- `put_bits`: what `io` spelt, at the width of 16, are the 16 digits; it has room, however many digits there are. Assumes nothing.
use mathlib.Core.Path.{ap, ◌∙◌}
use native.Mathlib.Omega.{arith}
use Rattle.listings.specs.Listing.{hex16}
use Rattle.listings.proofs.Laws.Digits.{hex_is, room_hex}
use Rattle.listings.proofs.inner.put_bits.Goals as goal

pub put_text-requires : goal.put_text-requires
put_text-requires c =
    let spelt = c.hex-k.ensures in
    room_hex _ _ _ _ _ (omega arith) (omega arith) spelt.len spelt.digits c.requires

pub returns : goal.returns
returns c =
    let spelt = c.hex-k.ensures in
    let digits = hex_is _ _ _ (omega arith) spelt.len spelt.digits ∙ ap hex16 c.bits_of.ensures in
    rw digits at c.put_text.ensures
