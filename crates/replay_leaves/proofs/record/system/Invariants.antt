-- `record::system` is safe: a row takes at most 11 words, so ten rows lie within the words. Assumes nothing.
use Rattle.std.proofs.Common.{◌≤◌, ◌*◌, ◌+◌}
use Rattle.replay_leaves.proofs.record.system.Given as goal

abbrev pub invariant-loop-i : goal.invariant-loop-i
invariant-loop-i l = l.at ≤ 2 + 11 * l.i
