-- `u32_at`: four bytes. Assumes nothing.
use mathlib.Core.Path.{◌≡◌}
use Prim.Native.Nat.{◌+◌}
use native.Mathlib.Omega.{arith}
use Rattle.files.specs.Bytes.{u16, u32}
use Rattle.files.proofs.inner.u32_at.Goals as goal

pub returns : goal.returns
unfolding u32 u16
returns c =
    let last : c.args.at + 2 + 1 ≡ c.args.at + 3 = omega arith in
    (rw last (omega (arith, c.from_le_bytes.ensures)), c.from_le_bytes.type_inv)
