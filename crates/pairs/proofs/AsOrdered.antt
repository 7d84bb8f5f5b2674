-- Document 01's order kept by the caller: sizes and settings first, by which the single call refuses too; behind them the room is there, so that the
-- design and the targets are what both calls look at next. Assumes nothing.
use mathlib.Core.Path.{◌≡◌, refl, ◌∙◌}
use mathlib.Core.Bool.{Bool, true, false}
use mathlib.Core.List.{List}
use lib.Ieee.{Float}
use Rattle.doubles.specs.Num.{◌and◌}
use Rattle.doubles.specs.Answer.{refused, answered, Fault, none, unless, ◌then◌}
use Rattle.doubles.proofs.Laws.Ends.{refused≢answered}
use Rattle.designs.specs.Given.{Given}
use Rattle.designs.specs.Checks.{sizes, contents, sized_fault, admitted, targets_fit, room_twice, preparation_fault}
use Rattle.definition.specs.Preparation.{prepare_call, prepare_left}
use Rattle.definition.specs.Call.{Lent, settings_fault, early_fault, solve_tests, End, behind, solve_end, answer, buffers}
use Rattle.definition.specs.Pair.{pair_end, pair_call, pair_left, ordered_end}
use Rattle.definition.specs.declared.Settings.{Settings}
use Rattle.definition.specs.declared.Report.{Report}
use Rattle.definition.proofs.Laws.Passed.{early}
use Rattle.definition.proofs.Laws.Prepared.{still_long}
use Rattle.pairs.specs.Single.{single_roomy, single_fault, single_end, single_call}
use Rattle.pairs.specs.AsSingle.{NeitherRefused, Roomy, with_scratch, AsOrdered}
use Rattle.pairs.proofs.AsSingle.{both_hold, single_roomy_lem, as_single}

module _ (g : Given) (S : Settings) (buf : List Float) (b : Lent) (scratch : List Float) where
  abbrev b' : Lent
  b' = with_scratch b scratch

  abbrev Ordered : Type 0
  Ordered = AsOrdered g S buf b scratch

  -- the single call's tests, its first two apart
  in_order : single_fault g S b' ≡ (early_fault g S then sized_fault g (single_roomy g.shape S b'))
  unfolding single_fault early_fault
  in_order = go (sizes g.shape g.starts g.rows g.values and targets_fit g)
    where
      go : (a : Bool) → unless a 1 (settings_fault S then sized_fault g (single_roomy g.shape S b'))
          ≡ (unless a 1 (settings_fault S) then sized_fault g (single_roomy g.shape S b'))
      go true = refl
      go false = refl

  -- a pair that answers has prepared
  prepared : (r : Report) → answer S (pair_end g S buf b) ≡ answered r → prepare_call g buf ≡ none
  unfolding pair_end
  prepared r = go (prepare_call g buf) (solve_end g S (prepare_left g buf) b)
    where
      go : (f : Fault) (s : End) → answer S (behind f s) ≡ answered r → f ≡ none
      go (answered u) s k = refl
      go (refused number place) s k = absurd (refused≢answered k)

  -- ---- refused before anything is prepared
  refused_early : (number place : _) → early_fault g S ≡ refused number place → Ordered
  unfolding ordered_end single_call single_end
  refused_early number place e = record {
    answers = rw (in_order, e);
    left = λ r h. absurd (refused≢answered (rw e at h));
  }

  -- ---- behind them
  module _ (e : early_fault g S ≡ none) (room : Roomy g S buf b scratch) where
    abbrev rest : Fault
    rest = contents g.shape.layout g

    preparation-next : preparation_fault g buf ≡ rest
    unfolding preparation_fault admitted sized_fault
    preparation-next = rw ((early g S e).0, room.numbers)

    single-next : single_fault g S b' ≡ rest
    unfolding sized_fault
    single-next = in_order ∙ rw (e, single_roomy_lem g S b scratch room.single room.buffers)

    refused-next : (number place : _) → rest ≡ refused number place → Ordered
    unfolding ordered_end pair_end prepare_call single_call single_end
    refused-next number place h = record {
      answers = rw (e, preparation-next, single-next, h);
      left = λ r k. absurd (refused≢answered (rw (e, preparation-next, h) at k));
    }

    -- the design and the targets pass: neither call is refused with 1 to 6
    module _ (h : rest ≡ none) where
      neither : NeitherRefused g S buf b
      unfolding solve_tests sized_fault
      neither =
          let p = preparation-next ∙ h in
          let numbers : room_twice g.shape.p (prepare_left g buf) ≡ true = rw (still_long g buf p) room.numbers in
          record { preparation = p; solve = rw (e, both_hold numbers room.buffers, h) }

      ends_as_pair : ordered_end g S buf b ≡ pair_end g S buf b
      unfolding ordered_end
      ends_as_pair = rw e

      passed_next : Ordered
      unfolding pair_call pair_left
      passed_next = record {
        answers = rw ends_as_pair ((as_single g S buf b).answer neither scratch room.single);
        left = λ r k. rw ends_as_pair ((as_single g S buf b).left neither (prepared r (rw ends_as_pair at k)) scratch room.single);
      }

  pub as_ordered : (early_fault g S ≡ none → Roomy g S buf b scratch) → Ordered
  as_ordered room = go (early_fault g S) refl
    where
      behind_early : early_fault g S ≡ none → (f : Fault) → contents g.shape.layout g ≡ f → Ordered
      behind_early e (answered u) h = passed_next e (room e) h
      behind_early e (refused number place) h = refused-next e (room e) number place h

      go : (f : Fault) → early_fault g S ≡ f → Ordered
      go (answered u) e = behind_early e (contents g.shape.layout g) refl
      go (refused number place) e = refused_early number place e
