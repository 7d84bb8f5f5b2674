-- What settings say that have no fault: one test after the other is taken off. Assumes nothing.
use mathlib.Core.Path.{◌≡◌}
use mathlib.Core.Bool.{true}
use Prim.Native.Nat.{◌≤◌, ◌<◌}
use lib.Dec.{leb}
use borrow.Author.Tests.{leb-true}
use Rattle.doubles.specs.Answer.{Fault, none, unless_at}
use Rattle.doubles.proofs.Laws.Choice.{and_both}
use Rattle.doubles.proofs.Laws.Verdict.{spared_at}
use Rattle.penalties.specs.Penalty.{alpha_legal, penalty_fault}
use Rattle.definition.specs.Call.{start_legal, depth_legal, settings_fault}
use Rattle.definition.specs.declared.Settings.{Settings}

-- ---- the tests from a setting on
abbrev pub from-tolerance : Settings → Fault
from-tolerance S = unless_at (alpha_legal S.tolerance) 2 4 (penalty_fault S.penalty)

abbrev pub from-depth : Settings → Fault
from-depth S = unless_at (depth_legal S) 2 3 (from-tolerance S)

abbrev pub from_start : Settings → Fault
from_start S = unless_at (start_legal S) 2 2 (from-depth S)

abbrev pub from-epochs : Settings → Fault
from-epochs S = unless_at (leb S.epochs 100000) 2 1 (from_start S)

-- ---- where all of them found nothing
module _ (S : Settings) (h : settings_fault S ≡ none) where
  behind-iterations : (leb S.iterations 1000 ≡ true) × (from-epochs S ≡ none)
  unfolding settings_fault
  behind-iterations = spared_at (leb S.iterations 1000) 2 0 _ h

  behind-epochs : (leb S.epochs 100000 ≡ true) × (from_start S ≡ none)
  behind-epochs = spared_at (leb S.epochs 100000) 2 1 _ behind-iterations.1

  behind-start : (start_legal S ≡ true) × (from-depth S ≡ none)
  behind-start = spared_at (start_legal S) 2 2 _ behind-epochs.1

  behind-depth : (depth_legal S ≡ true) × (from-tolerance S ≡ none)
  behind-depth = spared_at (depth_legal S) 2 3 _ behind-start.1

  pub few-iterations : S.iterations ≤ 1000
  few-iterations = leb-true S.iterations 1000 behind-iterations.0

  pub few-epochs : S.epochs ≤ 100000
  few-epochs = leb-true S.epochs 100000 behind-epochs.0

  pub deep : S.extrapolate ≡ true → 0 < S.depth
  unfolding depth_legal
  deep on = leb-true 1 S.depth (and_both (leb 1 S.depth) (leb S.depth 10) (rw on at behind-depth.0)).0

  pub shallow : S.extrapolate ≡ true → S.depth ≤ 10
  unfolding depth_legal
  shallow on = leb-true S.depth 10 (and_both (leb 1 S.depth) (leb S.depth 10) (rw on at behind-depth.0)).1

  pub penalty-legal : penalty_fault S.penalty ≡ none
  penalty-legal = (spared_at (alpha_legal S.tolerance) 2 4 _ behind-depth.1).1
