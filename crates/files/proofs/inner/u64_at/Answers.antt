-- `u64_at`: two u32 numbers. Assumes nothing.
use Rattle.files.specs.Bytes.{u64}
use Rattle.files.proofs.inner.u64_at.Goals as goal

pub returns : goal.returns
unfolding u64
returns c = rw (c.u32_at.ensures.0, c.u32_at-2.ensures.0)
