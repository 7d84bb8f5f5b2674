-- What a run leaves, over buffers of exactly their room.
use Rattle.std.specs.Prelude.{◌≡◌, List, Float}
use Rattle.std.specs.Float.Ieee.{le}
use Rattle.doubles.specs.Num.{pick}
use Rattle.doubles.specs.Steps.{zeros}
use Rattle.designs.specs.declared.Shape.{Shape}
use Rattle.definition.specs.Call.{End, untouched, given_up, done}
use Rattle.definition.specs.declared.Report.{Report}
use Rattle.definition.specs.declared.Status.TheVariants.{Met, Spent}
use Rattle.iterations.specs.declared.Totals.{Totals}

-- weights and fit; a run that was begun is never untouched
abbrev pub Leaves : Shape → End → List Float → List Float → Type 0
Leaves s (done q) w fit = (w ≡ q.inner.point.weights) × (fit ≡ q.inner.point.fit)
Leaves s (given_up number place) w fit = (w ≡ zeros s.p) × (fit ≡ zeros s.n)
Leaves s (untouched number place) w fit = ⊥

-- the report of what was counted
abbrev pub report_from : Totals → Float → Report
report_from c tolerance = record {
  status = pick (le c.violation tolerance) Met Spent;
  violation = c.violation;
  iterations = c.iterations;
  epochs = c.counts.epochs;
  extrapolations = c.counts.extrapolations;
}
