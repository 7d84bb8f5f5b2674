-- `construct_ws_from_kkt`: the tests in their order, then the set, lent the first p places. Assumes nothing.
use mathlib.Core.Path.{◌≡◌, refl, sym, ap, ◌∙◌}
use mathlib.Core.Bool.{Bool, true}
use mathlib.Core.List.{List}
use Prim.Native.Nat.{ℕ, ◌≤◌}
use lib.Ieee.{Float}
use lib.Dec.{leb, eqb}
use lib.ListN.{length}
use lib.Seq.{length-take-le}
use borrow.Author.Tests.{leb-true, eqb-true, le-leb, lt-leb}
use Rattle.doubles.specs.Num.{◌and◌}
use Rattle.doubles.specs.Buffer.{put}
use Rattle.doubles.specs.Answer.{Outcome, refused, answered}
use Rattle.doubles.proofs.Laws.Choice.{and_both}
use Rattle.doubles.proofs.Laws.Buffer.{put_front}
use Rattle.doubles.specs.Answer.{refused, none}
use Rattle.definition.specs.WorkingSet.{size, working_set, padded}
use Rattle.worksets.specs.Call.{ws_fault, ws_call, ws_left}
use Rattle.worksets.proofs.Laws.Numbers.{numbers_of}
use Rattle.worksets.proofs.construct_ws_from_kkt.Goals as goal

-- what the first two tests say once they passed
agreed : (p q : ℕ) (r : Bool) → r ≡ (leb 1 p and leb p 8192 and eqb q p) → r ≡ true → (p ≤ 8192) × (q ≡ p)
agreed p q r e h =
    let a = and_both (leb 1 p) (leb p 8192 and eqb q p) (sym e ∙ h) in
    let b = and_both (leb p 8192) (eqb q p) a.1 in
    (leb-true p 8192 b.0, eqb-true q p b.1)

within : (start p : ℕ) (r : Bool) → r ≡ (leb 1 start and leb start p) → r ≡ true → start ≤ p
within start p r e h = leb-true start p (and_both (leb 1 start) (leb start p) (sym e ∙ h)).1

module _ (v w : List Float) (start : ℕ) (indices : List ℕ) where
  refused_as : (r : Outcome ℕ) (number place : ℕ) → r ≡ refused number place → ws_fault v w start indices ≡ refused number place
      → (r ≡ ws_call v w start indices) × (indices ≡ ws_left v w start indices)
  unfolding ws_call ws_left
  refused_as r number place e f = rw f (e, refl)

  answered-as : (n : ℕ) (l : List ℕ) → n ≡ size start w → l ≡ put indices 0 (padded (working_set start v w) (length w)) → ws_fault v w start indices ≡ none
      → (answered n ≡ ws_call v w start indices) × (l ≡ ws_left v w start indices)
  unfolding ws_call ws_left
  answered-as n l e h f = rw f (ap answered e, h)

pub returns-then-not-lengths_agree : goal.returns-then-not-lengths_agree
unfolding ws_fault
returns-then-not-lengths_agree c = refused_as _ _ _ _ _ 1 0 (rw c.at.ensures) (rw (← c.lengths_agree.ensures, c.if-not-lengths_agree.true))

pub returns-then-not-start_in_range : goal.returns-then-not-start_in_range
unfolding ws_fault
returns-then-not-start_in_range c =
    refused_as _ _ _ _ _ 2 2 (rw c.at-then-not-start_in_range.ensures)
    (rw (← c.lengths_agree.ensures, c.if-not-lengths_agree.false, ← c.start_in_range.ensures, c.if-not-start_in_range.true))

pub returns-then-indices-p : goal.returns-then-indices-p
unfolding ws_fault
returns-then-indices-p c =
    refused_as _ _ _ _ _ 3 0 (rw c.at-then-indices-p.ensures)
    (rw (
      ← c.lengths_agree.ensures,
      c.if-not-lengths_agree.false,
      ← c.start_in_range.ensures,
      c.if-not-start_in_range.false,
      lt-leb _ _ c.if-indices-p.true,
    ))

pub first_bad_violation-requires : goal.first_bad_violation-requires
first_bad_violation-requires c =
    (agreed _ _ _ c.lengths_agree.ensures c.if-not-lengths_agree.false).1

pub returns-in-Some : goal.returns-in-Some
unfolding ws_fault
returns-in-Some c =
    refused_as _ _ _ _ _ 8 c.in-Some.j (rw c.at-in-Some.ensures)
    (rw (
      ← c.lengths_agree.ensures,
      c.if-not-lengths_agree.false,
      ← c.start_in_range.ensures,
      c.if-not-start_in_range.false,
      le-leb _ _ c.if-indices-p.false,
      ← c.first_bad_violation.ensures,
      c.in-Some.is,
    ))

pub slice_bounds-construct_ws-end-2 : goal.slice_bounds-construct_ws-end-2
slice_bounds-construct_ws-end-2 c = sym (length-take-le _ _ c.if-indices-p.false)

pub construct_ws-requires : goal.construct_ws-requires
construct_ws-requires c =
    let sizes = agreed _ _ _ c.lengths_agree.ensures c.if-not-lengths_agree.false in (
      sizes.1,
      sizes.0,
      within _ _ _ c.start_in_range.ensures c.if-not-start_in_range.false,
      length-take-le _ _ c.if-indices-p.false,
      numbers_of _ _ (sym c.first_bad_violation.ensures ∙ c.in_default.is),
    )

pub returns : goal.returns
unfolding ws_fault
returns c =
    let built = c.construct_ws in
    let w = c.args.w.now in
    let lent = c.args.indices.now in
    let placed = put_front lent (length w) built.new.indices _ c.if-indices-p.false built.auto.indices built.ensures.1 in
    answered-as c.args.kkt.now w c.args.start lent _ _ built.ensures.0 placed
    (rw (
      ← c.lengths_agree.ensures,
      c.if-not-lengths_agree.false,
      ← c.start_in_range.ensures,
      c.if-not-start_in_range.false,
      le-leb _ _ c.if-indices-p.false,
      ← c.first_bad_violation.ensures,
      c.in_default.is,
    ))
