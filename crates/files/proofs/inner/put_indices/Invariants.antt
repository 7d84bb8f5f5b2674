-- `put_indices`: the invariant is the elements so far, put where they go. Assumes nothing.
use mathlib.Core.Path.{◌≡◌}
use Prim.Native.Nat.{◌+◌, ◌*◌}
use Rattle.doubles.specs.Steps.{tab}
use Rattle.doubles.specs.Buffer.{put}
use Rattle.files.specs.Bytes.{u32}
use Rattle.files.proofs.inner.put_indices.Given as goal

abbrev pub invariant-loop-i : goal.invariant-loop-i
invariant-loop-i l = l.buf ≡ put l.initial.buf l.to (tab (λ k. u32 l.file (l.from + 4 * k)) l.i)
