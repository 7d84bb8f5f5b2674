-- `gradient_from` is the definition. Assumes nothing.
use Rattle.designs.specs.Design.{gradient_from}
use borrow.Author.Rules.{rules}
use Rattle.passes.proofs.gradient_from.Goals as goal

pub returns : goal.returns
unfolding gradient_from
returns c = search rules
