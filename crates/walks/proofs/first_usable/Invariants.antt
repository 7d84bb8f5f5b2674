-- `first_usable`: the invariant is that none was usable so far. Assumes nothing.
use mathlib.Core.Path.{◌≡◌}
use Rattle.std.specs.Prelude.{None}
use Rattle.definition.specs.Inner.Problem.{given_in}
use Rattle.definition.specs.Walk.{first_usable}
use Rattle.walks.specs.Inner.Fits.{fit_with}
use Rattle.walks.proofs.first_usable.Given as goal

abbrev pub invariant-loop-k : goal.invariant-loop-k
invariant-loop-k l =
    let P = l.problem in
    None ≡ first_usable P.settings l.most (fit_with (given_in P) P.settings l.alphas P.prepared.now) l.k
