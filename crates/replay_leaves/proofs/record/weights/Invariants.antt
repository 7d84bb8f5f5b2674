-- `record::weights` is safe: the loop writes within the 64 weights, whose number stays. Assumes nothing.
use Rattle.std.proofs.Common.{◌≡◌, length}
use Rattle.replay_leaves.proofs.record.weights.Given as goal

abbrev pub invariant-loop-i : goal.invariant-loop-i
invariant-loop-i l = 64 ≡ length l.w
