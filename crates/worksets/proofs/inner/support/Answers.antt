-- `support`: the invariant is the support of the features passed, and zeros behind it. Assumes nothing.
use mathlib.Core.Path.{ap, ◌∙◌}
use lib.ListN.{length}
use Rattle.doubles.proofs.Laws.Steps.{length-tab}
use Rattle.worksets.proofs.Laws.Places.{support-none, support-start, support-room, support-count, support-turn, support-all}
use native.Mathlib.Omega.{arith}
use Rattle.worksets.proofs.inner.support.Goals as goal

pub loop-j-init : goal.loop-j-init
loop-j-init c = record {
  count = support-start _;
  places = support-none _ _ _ c.requires.0;
}

pub append-c-requires : goal.append-c-requires
append-c-requires c =
    let so_far = c.loop-j in
    let long = so_far.auto.indices ∙ ap length c.requires.0 ∙ length-tab _ _ in
    let most = c.requires.1 in
    let here = c.loop-j-test.true in
    (support-room _ _ _ _ so_far.indices so_far.invariant.count here long, omega arith)

pub loop-j-preserved : goal.loop-j-preserved
loop-j-preserved c =
    let so_far = c.loop-j.invariant in
    let more = c.append-c.ensures in record {
      count = support-count _ _ _ _ so_far.count more.0;
      places = support-turn _ _ _ _ _ _ c.loop-j-test.true so_far.count so_far.places more.1;
    }

pub returns : goal.returns
returns c = support-all _ _ _ _ _ c.loop-j.invariant.count c.loop-j.invariant.places c.loop-j.auto.j-end c.loop-j-test.false
