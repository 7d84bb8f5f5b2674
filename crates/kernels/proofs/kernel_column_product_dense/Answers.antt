-- `kernel_column_product_dense`: the product behind the tests, told. Assumes nothing.
use Rattle.kernels.proofs.Laws.Kernels.{product_told}
use Rattle.kernels.proofs.kernel_column_product_dense.Goals as goal

pub returns : goal.returns
returns c = product_told _ _ _ _ _ _ c.column_product-answer.ensures c.tell_number.ensures
