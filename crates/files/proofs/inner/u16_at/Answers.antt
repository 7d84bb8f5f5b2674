-- `u16_at`: two bytes. Assumes nothing.
use native.Mathlib.Omega.{arith}
use Rattle.files.specs.Bytes.{u16}
use Rattle.files.proofs.inner.u16_at.Goals as goal

pub returns : goal.returns
unfolding u16
returns c = (omega (arith, c.from_le_bytes.ensures), c.from_le_bytes.type_inv)
