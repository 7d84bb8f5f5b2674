-- What the tests say of the slices is what the type says. Assumes nothing.
use Rattle.designs.proofs.Laws.Tested.{tested_dense, tested_csc}
use Rattle.designs.proofs.inner.vouched.Goals as goal

pub invariant_of-result-clause-dense : goal.invariant_of-result-clause-dense
invariant_of-result-clause-dense c = tested_dense _ _ _ _ _ _ c.requires.1

pub invariant_of-result-clause-csc : goal.invariant_of-result-clause-csc
invariant_of-result-clause-csc c = tested_csc _ _ _ _ _ _ c.requires.1
