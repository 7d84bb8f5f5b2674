-- `nonzeros`: what is counted is the length of the support. Assumes nothing.
use mathlib.Core.Path.{◌≡◌, ◌∙◌}
use lib.Ieee.{Float, ne}
use Rattle.std.specs.List.{count_by}
use Rattle.std.proofs.Common.{rules}
use Rattle.doubles.specs.Num.{#0}
use Rattle.worksets.proofs.Laws.Places.{counted}
use Rattle.worksets.proofs.inner.nonzeros.Goals as goal

pub returns : goal.returns
returns c =
    let ran : c.count.result ≡ count_by (λ (x : Float). ne x #0) c.args.w.now = search rules in
    ran ∙ counted _
