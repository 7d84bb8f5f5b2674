-- `parts::numbers_of` is safe: the loop writes within the list, whose length stays. Assumes nothing.
use Rattle.std.proofs.Common.{◌≡◌, length}
use Rattle.list_reader.proofs.parts.numbers_of.Given as goal

abbrev pub invariant-loop-i : goal.invariant-loop-i
invariant-loop-i g l = 1024 ≡ length l.r
