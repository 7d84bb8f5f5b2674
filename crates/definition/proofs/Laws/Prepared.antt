-- What a preparation leaves: where it answers, a solve's task gets the prepared numbers back as they were, for they are 2p, and 10 lets them pass; after
-- its 7 there are zeros. Assumes nothing.
use mathlib.Core.Path.{◌≡◌, refl, sym, ap, ◌∙◌}
use mathlib.Core.Bool.{Bool, true, false}
use mathlib.Core.List.{List}
use Prim.Native.Nat.{ℕ, ◌+◌, ◌≤◌, ◌<◌}
use native.Mathlib.Nat.{zero-add, le_trans}
use native.Mathlib.Omega.{arith}
use borrow.Author.Tests.{leb-true}
use lib.Dec.{lit≤}
use lib.ListN.{length, take}
use lib.Seq.{get_or-take}
use lib.Ieee.{Float, nan}
use Rattle.doubles.specs.Num.{at, pick, ◌and◌}
use Rattle.doubles.specs.Steps.{zeros}
use Rattle.doubles.specs.Buffer.{put}
use Rattle.doubles.specs.Answer.{refused, answered, Fault, none, unless, ◌then◌}
use Rattle.doubles.proofs.Laws.Verdict.{AtMost, none_most, unless_most, then_most, spared, then-none}
use Rattle.doubles.proofs.Laws.Ends.{refused≢answered}
use Rattle.doubles.proofs.Laws.Steps.{length-tab}
use Rattle.doubles.proofs.Laws.Buffer.{length-put}
use Rattle.doubles.proofs.Laws.Parts.{part_at}
use Rattle.designs.specs.Design.{Design, prepared}
use Rattle.designs.specs.Given.{Given, design_of}
use Rattle.designs.specs.Checks.{sizes, targets_fit, room_twice, admitted, preparation_fault}
use Rattle.designs.proofs.Laws.Layouts.{samples, features}
use Rattle.designs.proofs.Laws.Preparation.{length-prepared}
use Rattle.designs.proofs.Laws.Numbers.{sized_most}
use Rattle.designs.proofs.Laws.Passed.{admits}
use Rattle.definition.specs.Preparation.{all_usable, prepared_of, prepare_call, numbers_left, prepare_left}
use Rattle.definition.specs.Call.{acceptable_at, handed_fault}
use Rattle.definition.proofs.Laws.Handed.{handed_none, none_handed, prepared_accepted}

-- ---- the task of a solve gets the first 2p numbers handed over
module _ (p : ℕ) (handed : List Float) where
  pub task_accepted : handed_fault p handed ≡ none → (j : ℕ) → j < p → acceptable_at p (take (p + p) handed) j ≡ true
  task_accepted e j l =
      rw (get_or-take (p + p) handed j nan (omega arith), get_or-take (p + p) handed (p + j) nan (omega arith)) (handed_none p handed e j l)

module _ (g : Given) (buf : List Float) where
  abbrev p : ℕ
  p = g.shape.p

  features-same : (design_of g).p ≡ p
  features-same = features g.shape.layout g.shape.n p g.starts g.rows g.values

  samples-same : (design_of g).n ≡ g.shape.n
  samples-same = samples g.shape.layout g.shape.n p g.starts g.rows g.values

  -- 2p numbers are prepared
  pub prepared-long : length (prepared_of g) ≡ p + p
  prepared-long = length-prepared (design_of g) g.targets ∙ rw features-same

  -- ---- the refusals: 1 to 6, then 7
  preparation_most : AtMost 6 (preparation_fault g buf)
  unfolding preparation_fault admitted
  preparation_most =
      unless_most 1 (lit≤ tt) (sizes g.shape g.starts g.rows g.values and targets_fit g) (sized_most g (room_twice p buf))

  pub prepare_most : AtMost 7 (prepare_call g buf)
  unfolding prepare_call
  prepare_most =
      then_most (preparation_fault g buf) (record { most = λ number place e. le_trans (preparation_most.most number place e) (lit≤ tt) })
      (unless_most 7 (lit≤ tt) (all_usable p (prepared_of g)) (none_most 7))

  -- ---- where 1 to 6 do not refuse, the buffer is as long as it was
  numbers-long : (b : Bool) → length (pick b (prepared_of g) (zeros (p + p))) ≡ p + p
  numbers-long true = prepared-long
  numbers-long false = length-tab _ (p + p)

  pub still_long : preparation_fault g buf ≡ none → length (prepare_left g buf) ≡ length buf
  unfolding prepare_left numbers_left preparation_fault
  still_long e =
      let room = leb-true (p + p) (length buf) (admits g (targets_fit g) (room_twice p buf) e).roomy in
      rw e (length-put buf 0 _ (rw (numbers-long (all_usable p (prepared_of g)), zero-add) room))

  -- ---- where it answers
  module _ (e : prepare_call g buf ≡ none) where
    pub answers : (preparation_fault g buf ≡ none) × (all_usable p (prepared_of g) ≡ true)
    unfolding prepare_call
    answers = let a = then-none (preparation_fault g buf) _ e in (a.0, (spared _ 7 none a.1).0)

    pub left-prepared : prepare_left g buf ≡ put buf 0 (prepared_of g)
    unfolding prepare_left numbers_left
    left-prepared = rw (answers.0, answers.1)

    pub handed_back : take (p + p) (prepare_left g buf) ≡ prepared_of g
    handed_back = rw left-prepared (part_at buf 0 (p + p) (prepared_of g) (omega arith) prepared-long)

    pub left-long : length (prepare_left g buf) ≡ length buf
    left-long = still_long answers.0

    pub left_at : (j : ℕ) → j < p + p → at (prepare_left g buf) j ≡ at (prepared_of g) j
    left_at j l = sym (get_or-take (p + p) (prepare_left g buf) j nan l) ∙ ap (λ (numbers : List Float). at numbers j) handed_back

    pub left_accepted : handed_fault p (prepare_left g buf) ≡ none
    unfolding preparation_fault
    left_accepted =
        let z = (admits g (targets_fit g) (room_twice p buf) answers.0).sized in
        none_handed p (prepare_left g buf)
        (λ j l. rw (left_at j (omega arith), left_at (p + j) (omega arith))
        (accepted (design_of g) p features-same (rw samples-same z.some) (rw samples-same z.few) answers.1 j l))
      where
        accepted : (X : Design) (p : ℕ) → X.p ≡ p → 1 ≤ X.n → X.n ≤ 65536 → all_usable p (prepared X g.targets) ≡ true
            → (j : ℕ) → j < p → acceptable_at p (prepared X g.targets) j ≡ true
        accepted X p e = rw (← e) (prepared_accepted X g.targets)

  -- ---- its 7
  module _ (place : ℕ) (e : prepare_call g buf ≡ refused 7 place) where
    pub refuses : (preparation_fault g buf ≡ none) × (all_usable p (prepared_of g) ≡ false)
    unfolding prepare_call
    refuses = go (preparation_fault g buf) refl (all_usable p (prepared_of g)) e
      where
        go : (f : Fault) → preparation_fault g buf ≡ f → (b : Bool) → (f then unless b 7 none) ≡ refused 7 place → (f ≡ none) × (b ≡ false)
        go (answered u) h true e = absurd (refused≢answered (sym e))
        go (answered u) h false e = (refl, refl)
        go (refused number k) h b e =
            let q : number ≡ 7 = cc in
            let l : number ≤ 6 = preparation_most.most number k h in
            absurd (omega arith)

    pub left-zeros : prepare_left g buf ≡ put buf 0 (zeros (p + p))
    unfolding prepare_left numbers_left
    left-zeros = rw (refuses.0, refuses.1)
