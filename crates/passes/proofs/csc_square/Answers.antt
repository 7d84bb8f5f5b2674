-- `csc_square`: the invariant is the sum over the stored entries passed. Assumes nothing.
use mathlib.Core.Path.{◌≡◌, ap, ◌∙◌}
use mathlib.Core.List.{List}
use Prim.Native.Nat.{ℕ, ◌+◌, ◌-◌, ◌≤◌, ◌<◌}
use native.Mathlib.Omega.{arith}
use lib.Ieee.{Float, nan}
use lib.ListN.{length, take, drop}
use Rattle.std.proofs.lemmas.List.{get_or-take, get_or-drop, length-take-le, length-drop}
use Rattle.doubles.specs.Num.{◌⊕◌, ◌⊗◌, #0, at}
use Rattle.doubles.specs.Steps.{sum}
use Rattle.doubles.proofs.Laws.Steps.{steps-none, steps-more, steps_all, steps-same}
use Rattle.designs.specs.Design.{squares, csc}
use Rattle.designs.proofs.Laws.Layouts.{column-end, as_csc}
use Rattle.passes.proofs.csc_square.Goals as goal

-- the squares of a part of a list are those of the list from there on
part-squares : (l : List Float) (a m i : ℕ) (s : Float) → a + m ≤ length l → let part = take (a + m - a) (drop a l) in
    s ≡ sum (λ k. at part k ⊗ at part k) i → i ≤ length part → length part ≤ i → s ≡ sum (λ k. at l (a + k) ⊗ at l (a + k)) m
part-squares l a m i s h e p q =
    let part = take (a + m - a) (drop a l) in
    let len : length part ≡ a + m - a = length-take-le (a + m - a) (drop a l) (omega (arith, length-drop a l)) in
    let here : (k : ℕ) → k < m → at part k ≡ at l (a + k) = λ k t. get_or-take (a + m - a) (drop a l) k nan (omega arith) ∙ get_or-drop a l k nan in
    let lo : i ≤ m = omega arith in
    let hi : m ≤ i = omega arith in
    steps_all _ _ _ _ _ e lo hi ∙ steps-same _ _ m #0 (λ k t b. ap (λ (x : Float). b ⊕ x ⊗ x) (here k t))

pub loop-value-init : goal.loop-value-init
loop-value-init c = steps-none _ _

pub loop-value-preserved : goal.loop-value-preserved
loop-value-preserved c = steps-more _ _ _ _ c.loop-value.invariant

pub returns : goal.returns
unfolding squares csc
returns c =
    let stored = c.stored_of-start.ensures in
    let end : c.stored_of-start.result.start + c.stored_of-start.result.many ≤ length c.args.x.now.matrix.values.now =
    rw (stored.0, stored.1) (column-end (c.args.x.now.csc c.requires.0) _ c.requires.1) in
    let squares = part-squares _ _ _ _ _ end c.loop-value.invariant c.loop-value.auto.value-index-end c.loop-value-test.false in
    rw (as_csc _ _ _ _ _ _ c.requires.0, ← stored.1, ← stored.0) squares
