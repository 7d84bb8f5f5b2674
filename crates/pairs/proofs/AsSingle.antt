-- Preparing and then solving is the single call: the tests ask the same of what both are given, and the task of a solve that is handed the prepared
-- numbers is the single call's. Assumes nothing.
use mathlib.Core.Path.{◌≡◌, refl, sym, ap, ◌∙◌}
use mathlib.Core.Bool.{Bool, true, false}
use mathlib.Core.List.{List}
use Prim.Native.Nat.{ℕ, ◌≤◌}
use native.Mathlib.Omega.{arith}
use borrow.Author.Tests.{le-leb}
use lib.ListN.{length}
use lib.Ieee.{Float}
use Rattle.doubles.specs.Num.{◌and◌}
use Rattle.doubles.specs.Answer.{refused, answered, Fault, none}
use Rattle.doubles.proofs.Laws.Choice.{and_both}
use Rattle.doubles.proofs.Laws.Verdict.{spared, then-none}
use Rattle.doubles.proofs.Laws.Ends.{refused≢answered}
use Rattle.designs.specs.Given.{Given}
use Rattle.designs.specs.Checks.{sized_fault, room_twice}
use Rattle.designs.specs.declared.Shape.{Shape}
use Rattle.definition.specs.Preparation.{all_usable, prepared_of, prepare_call, prepare_left}
use Rattle.definition.specs.Call.{Lent, roomy, early_fault, solve_tests, End, untouched, given_up, done, solved, behind, solve_end}
use Rattle.definition.specs.Call.{answer, buffers, solve_call}
use Rattle.definition.specs.Pair.{pair_end, pair_call, pair_left}
use Rattle.definition.specs.declared.Settings.{Settings}
use Rattle.definition.proofs.Laws.Passed.{early}
use Rattle.pairs.specs.Single.{single_room, single_roomy, single_fault, single_solved, single_end, single_call, single_buffers, single_left}
use Rattle.pairs.specs.AsSingle.{NeitherRefused, with_scratch, SameButScratch, AsSingle}
use Rattle.definition.proofs.Laws.Prepared.{prepare_most, answers, left_accepted, left-zeros}
use Rattle.definition.proofs.Laws.Pair.{pair_runs}
use Rattle.definition.proofs.Laws.Refusals.{from-tests, from-numbers, from-run, From, refused-from}

pub both_hold : {a b : Bool} → a ≡ true → b ≡ true → (a and b) ≡ true
unfolding ◌and◌
both_hold h k = rw (h, k)

pub single_roomy_lem : (g : Given) (S : Settings) (b : Lent) (scratch : List Float) → single_room g.shape S ≤ length scratch → roomy g.shape S b ≡ true
    → single_roomy g.shape S (with_scratch b scratch) ≡ true
unfolding roomy single_roomy
single_roomy_lem g S b scratch room r =
    let w = and_both _ _ r in
    let f = and_both _ _ w.1 in
    let i = and_both _ _ f.1 in
    both_hold w.0 (both_hold f.0 (both_hold i.0 (le-leb _ _ room)))

left-same : (s : Shape) (S : Settings) (b : Lent) (scratch : List Float) (e : End)
    → SameButScratch (buffers s S b e) (single_buffers s S (with_scratch b scratch) e)
left-same s S b scratch (untouched number place) = record { weights = refl; fit = refl; indices = refl }
left-same s S b scratch (given_up number place) = record { weights = refl; fit = refl; indices = refl }
left-same s S b scratch (done q) = record { weights = refl; fit = refl; indices = refl }

module _ (g : Given) (S : Settings) (buf : List Float) (b : Lent) where
  abbrev handed : List Float
  handed = prepare_left g buf

  module _ (h : NeitherRefused g S buf b) (scratch : List Float) (room : single_room g.shape S ≤ length scratch) where
    abbrev b' : Lent
    b' = with_scratch b scratch

    -- ---- what the solve's tests let pass, the single call's do
    tested : (early_fault g S ≡ none) × (sized_fault g (room_twice g.shape.p handed and roomy g.shape S b) ≡ none)
    unfolding solve_tests
    tested = then-none (early_fault g S) _ h.solve

    single_passes : single_fault g S b' ≡ none
    unfolding single_fault sized_fault
    single_passes =
        let a = early g S tested.0 in
        let c = spared (room_twice g.shape.p handed and roomy g.shape S b) 3 _ tested.1 in
        rw (a.0, a.1, single_roomy_lem g S b scratch room (and_both _ _ c.0).1, c.1)

    -- ---- where the preparation answers, both run with its numbers
    module _ (u : all_usable g.shape.p (prepared_of g) ≡ true) where
      ends_same : pair_end g S buf b ≡ single_end g S b'
      unfolding single_end single_solved solved
      ends_same = pair_runs g S buf b h.preparation h.solve u ∙ rw (single_passes, u)

    answer-same : pair_call g S buf b ≡ single_call g S b'
    unfolding pair_call single_call
    answer-same = go (all_usable g.shape.p (prepared_of g)) refl
      where
        go : (u : Bool) → all_usable g.shape.p (prepared_of g) ≡ u → answer S (pair_end g S buf b) ≡ answer S (single_end g S b')
        go true u = ap (answer S) (ends_same u)
        go false u = unfold pair_end prepare_call single_end single_solved in rw (h.preparation, u, single_passes)

    left_as_single : prepare_call g buf ≡ none → SameButScratch (pair_left g S buf b) (single_left g S b')
    unfolding pair_left single_left
    left_as_single e = rw (ends_same (answers g buf e).1) (left-same g.shape S b scratch (single_end g S b'))

  -- ---- where the preparation refuses
  untouched-left : (number place : ℕ) → prepare_call g buf ≡ refused number place → pair_left g S buf b ≡ b
  unfolding pair_left pair_end
  untouched-left number place e = rw e

  -- ---- 10: no preparation gives it, and what it left passes
  solve-none : prepare_call g buf ≡ none → (place : ℕ) → solve_call g S handed b ≡ refused 10 place → ⊥
  solve-none p place e = go (refused-from g S handed b 10 place e)
    where
      go : From g S handed b 10 place → ⊥
      go (from-tests t l) = omega (arith, l)
      go (from-numbers t n l) = refused≢answered (sym n ∙ left_accepted g buf p)
      go (from-run t r l) = omega (arith, l)

  pair_none : (place : ℕ) → pair_call g S buf b ≡ refused 10 place → ⊥
  unfolding pair_call pair_end
  pair_none place = go (prepare_call g buf) refl
    where
      go : (f : Fault) → prepare_call g buf ≡ f → answer S (behind f (solve_end g S handed b)) ≡ refused 10 place → ⊥
      go (answered u) q e = solve-none q place (unfold solve_call in e)
      go (refused number k) q e =
          let n : number ≡ 10 = cc in
          let l : number ≤ 7 = (prepare_most g buf).most number k q in
          omega arith

  pub as_single : AsSingle g S buf b
  as_single = record {
    answer = answer-same;
    left = λ h e scratch room. left_as_single h scratch room e;
    untouched = untouched-left;
    zeroed = left-zeros g buf;
    never_ten = pair_none;
  }
