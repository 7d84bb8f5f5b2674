-- `put_doubles`: the invariant is the elements so far, put where they go. Assumes nothing.
use mathlib.Core.Path.{◌≡◌}
use Prim.Native.Nat.{◌+◌, ◌*◌}
use Rattle.doubles.specs.Steps.{tab}
use Rattle.doubles.specs.Buffer.{put}
use Rattle.files.specs.Bytes.{f64}
use Rattle.files.proofs.inner.put_doubles.Given as goal

abbrev pub invariant-loop-i : goal.invariant-loop-i
invariant-loop-i l = l.buf ≡ put l.initial.buf l.to (tab (λ k. f64 l.file (l.from + 8 * k)) l.i)
