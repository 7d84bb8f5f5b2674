-- `put_indices`: the invariant is the elements so far, put where they go. Assumes nothing.
use borrow.Author.Rules.{rules}
use Rattle.doubles.proofs.Laws.Buffer.{put-none, put-more}
use Rattle.files.proofs.inner.put_indices.Goals as goal

pub loop-i-init : goal.loop-i-init
loop-i-init c = put-none _ _ _

pub loop-i-preserved : goal.loop-i-preserved
loop-i-preserved c =
    rw c.loop-i.invariant (put-more _ c.args.buf.now c.args.to c.loop-i.i 0 (search rules) _ c.u32_at.ensures.0)
