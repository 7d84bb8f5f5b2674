-- `f64_at`: the double of eight bytes. Assumes nothing.
use mathlib.Core.Path.{◌∙◌}
use Rattle.files.specs.Bytes.{f64}
use Rattle.files.proofs.inner.f64_at.Goals as goal

pub returns : goal.returns
unfolding f64
returns c = c.double.ensures ∙ rw c.u64_at.ensures
