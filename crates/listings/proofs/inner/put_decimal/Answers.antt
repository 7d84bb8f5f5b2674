-- `put_decimal`: what `io` spelt, with the fewest digits. Assumes nothing.
use native.Mathlib.Omega.{arith}
use Rattle.listings.proofs.Laws.Digits.{decimal-is}
use Rattle.listings.proofs.inner.put_decimal.Goals as goal

pub put_text-requires : goal.put_text-requires
put_text-requires c =
    let spelt = c.decimal-k.ensures in
    rw (decimal-is _ _ _ (omega arith) spelt.len spelt.digits) c.requires

pub returns : goal.returns
returns c =
    let spelt = c.decimal-k.ensures in
    rw (decimal-is _ _ _ (omega arith) spelt.len spelt.digits) at c.put_text.ensures
