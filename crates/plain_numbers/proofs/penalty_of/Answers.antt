-- `penalty_of`: by the code. Assumes nothing.
use Rattle.std.proofs.Common.{◌≢◌}
use borrow.Author.Rules.{rules}
use borrow.Author.Tests.{ne_eqb}
use lib.Ieee.{of_bits}
use Rattle.plain_numbers.specs.Codes.{coded_penalty}
use Rattle.plain_numbers.proofs.penalty_of.Goals as goal

pub returns-in-0 : goal.returns-in-0
unfolding coded_penalty
returns-in-0 c = rw c.in-0.is

pub returns-in-1 : goal.returns-in-1
unfolding coded_penalty
returns-in-1 c = rw c.in-1.is

pub returns-in-2 : goal.returns-in-2
unfolding coded_penalty
returns-in-2 c = rw c.in-2.is

pub returns-in_default : goal.returns-in_default
unfolding coded_penalty of_bits
returns-in_default c =
    let a : c.args.code ≢ 0 = search rules in
    let b : c.args.code ≢ 1 = search rules in
    let d : c.args.code ≢ 2 = search rules in
    rw (ne_eqb _ _ a, ne_eqb _ _ b, ne_eqb _ _ d)
