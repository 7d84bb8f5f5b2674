-- `admit_column`: the definition's two tests, each as the code makes it. Assumes nothing.
use mathlib.Core.Path.{sym, ◌∙◌}
use borrow.Author.Tests.{le-leb, lt-leb, lt-ltb, le-ltb}
use Rattle.doubles.specs.Num.{◌and◌}
use Rattle.designs.proofs.Laws.Passed.{sized}
use Rattle.kernels.specs.Kernels.{kernel_fault}
use Rattle.kernels.proofs.Laws.Kernels.{made_sizes, made_design, dense_whole, dense_not_csc}
use Rattle.kernels.proofs.admit_column.Goals as goal
use Rattle.kernels.proofs.admit_column.Goals.{
  then-not-sizes_agree-via-then-not-sizes_agree,
  then-not-sizes_agree-via-else-not-sizes_agree+then-p-column,
}

pub returns-then-not-sizes_agree-clause-fault : goal.returns-then-not-sizes_agree-clause-fault
unfolding kernel_fault ◌and◌
returns-then-not-sizes_agree-clause-fault c =
    rw (c.at.ensures, ← made_sizes c.dense-matrix.result c.dense-matrix.ensures c.sizes_agree.ensures) (elim c.then-not-sizes_agree.branch [
      | then-not-sizes_agree-via-then-not-sizes_agree w ↦ rw w.if-not-sizes_agree.true
      | then-not-sizes_agree-via-else-not-sizes_agree+then-p-column w ↦ rw (w.if-not-sizes_agree.false, le-ltb _ _ w.if-p-column.true)
    ])

pub returns-then-places-n-clause-fault : goal.returns-then-places-n-clause-fault
unfolding kernel_fault ◌and◌
returns-then-places-n-clause-fault c =
    rw (
      c.at-then-places-n.ensures,
      ← made_sizes c.dense-matrix.result c.dense-matrix.ensures c.sizes_agree.ensures,
      c.if-not-sizes_agree.false,
      lt-ltb _ _ c.if-p-column.false,
      lt-leb _ _ c.if-places-n.true,
    )

pub invariant_of-result-clause-dense : goal.invariant_of-result-clause-dense
invariant_of-result-clause-dense c =
    dense_whole _ _ _ _ (sized _ _ _ _ (sym c.sizes_agree.ensures ∙ c.if-not-sizes_agree.false)).agree

pub invariant_of-result-clause-csc : goal.invariant_of-result-clause-csc
invariant_of-result-clause-csc c = dense_not_csc _ _ _ _ c.dense-matrix.ensures.0

pub returns-clause-fault : goal.returns-clause-fault
unfolding kernel_fault ◌and◌
returns-clause-fault c =
    rw (
      ← made_sizes c.dense-matrix.result c.dense-matrix.ensures c.sizes_agree.ensures,
      c.if-not-sizes_agree.false,
      lt-ltb _ _ c.if-p-column.false,
      le-leb _ _ c.if-places-n.false,
    )

pub returns-clause-design : goal.returns-clause-design
returns-clause-design c =
    let made = c.dense-matrix.ensures in
    (made_design c.dense-matrix.result made, rw made.0 c.if-p-column.false, rw made.0 c.if-places-n.false)
