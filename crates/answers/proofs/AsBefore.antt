-- The program prints what it would print if it made the single call: it keeps document 01's order, and its places have room for both. A refusal's line has
-- neither weights nor fit, so that it does not matter what the preparation's 7 leaves of them. Assumes nothing.
use mathlib.Core.Path.{◌≡◌, refl}
use mathlib.Core.Bool.{Bool, true, false}
use Prim.Native.Nat.{ℕ, ◌+◌, ◌*◌, ◌≤◌}
use native.Mathlib.Nat.{mul-le-mul}
use native.Mathlib.Omega.{arith}
use borrow.Author.Tests.{le-leb}
use lib.ListN.{take, replicate}
use Rattle.doubles.specs.Num.{#0, pick}
use Rattle.doubles.specs.Answer.{Outcome, refused, answered, none}
use Rattle.designs.specs.Given.{Given}
use Rattle.definition.specs.Call.{early_fault, scratch_room, roomy}
use Rattle.definition.specs.declared.Settings.{Settings}
use Rattle.definition.specs.declared.Report.{Report}
use Rattle.definition.proofs.Laws.Passed.{early}
use Rattle.definition.proofs.Laws.Settings.{shallow}
use Rattle.pairs.specs.Single.{single_room}
use Rattle.pairs.specs.AsSingle.{Roomy, AsOrdered}
use Rattle.pairs.proofs.AsSingle.{both_hold}
use Rattle.pairs.proofs.AsOrdered.{as_ordered}
use Rattle.files.specs.Call.{Problem}
use Rattle.listings.specs.Listing.{listed}
use Rattle.answers.specs.Printed.{prepared_places, lent_places, problem_fit, problem_left, printed_for}
use Rattle.answers.specs.AsBefore.{printed_before}

-- what rows of at most 32 places take, beside at most 256 samples
small : (c K p n : ℕ) → K ≤ 10 → p ≤ 32 → n ≤ 256 → (2 * K + c) * p + n ≤ (20 + c) * 32 + 256
small c K p n k a b =
    let m : (2 * K + c) * p ≤ (20 + c) * 32 = mul-le-mul (omega arith) a in
    omega arith

module _ (P : Problem) (samples : P.given.shape.n ≤ 256) (features : P.given.shape.p ≤ 32) where
  abbrev g : Given
  g = P.given

  abbrev S : Settings
  S = P.settings

  -- the scratch of a solve, and of the single call
  solve_small : early_fault g S ≡ none → scratch_room g.shape S ≤ 992
  unfolding scratch_room
  solve_small e = go S.extrapolate refl
    where
      go : (b : Bool) → S.extrapolate ≡ b → pick b ((2 * S.depth + 3) * g.shape.p + g.shape.n) g.shape.p ≤ 992
      go true on = small 3 S.depth g.shape.p g.shape.n (shallow S (early g S e).1 on) features samples
      go false off = omega arith

  single_small : early_fault g S ≡ none → single_room g.shape S ≤ 1056
  unfolding single_room
  single_small e = go S.extrapolate refl
    where
      go : (b : Bool) → S.extrapolate ≡ b → pick b ((2 * S.depth + 5) * g.shape.p + g.shape.n) (3 * g.shape.p) ≤ 1056
      go true on = small 5 S.depth g.shape.p g.shape.n (shallow S (early g S e).1 on) features samples
      go false off = omega arith

  room : early_fault g S ≡ none → Roomy g S prepared_places lent_places (replicate 1056 #0)
  unfolding roomy
  room e = record {
    numbers = le-leb (g.shape.p + g.shape.p) 64 (omega arith);
    buffers = both_hold (le-leb _ 32 features) (both_hold (le-leb _ 256 samples) (both_hold (le-leb _ 32 features) (le-leb _ 992 (solve_small e))));
    single = single_small e;
  }

  ordered : AsOrdered g S prepared_places lent_places (replicate 1056 #0)
  ordered = as_ordered g S prepared_places lent_places (replicate 1056 #0) room

  -- what is listed, by what the program answers
  listed_same : (o : Outcome Report) → problem_fit P ≡ o
      → listed o (take g.shape.p (problem_left P).weights) (take g.shape.n (problem_left P).fit) ≡ printed_before P
  unfolding problem_fit problem_left printed_before
  listed_same (refused number place) e = rw (← ordered.answers, e)
  listed_same (answered r) e = let s = ordered.left r e in rw (← ordered.answers, e, s.weights, s.fit)

  pub as_before : printed_for (answered P) ≡ printed_before P
  as_before = rw (← listed_same (problem_fit P) refl)
