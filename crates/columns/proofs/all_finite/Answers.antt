-- `all_finite` is the library's `all`, which is true just where each place is finite. Assumes nothing.
use mathlib.Core.Path.{◌≡◌}
use mathlib.Core.Bool.{true}
use borrow.Author.Rules.{rules}
use Rattle.std.specs.Prelude.{IsTrue, EachIndex, ◌↔◌}
use Rattle.doubles.specs.Num.{at, finite}
use Rattle.doubles.proofs.Laws.Steps.{all_just}
use Rattle.columns.proofs.all_finite.Goals as goal

pub returns : goal.returns
returns c =
    let h : IsTrue c.all.result ↔ EachIndex c.args.xs.now (λ i. finite (at c.args.xs.now i) ≡ true) = search rules in
    all_just _ _ _ h.0 h.1
