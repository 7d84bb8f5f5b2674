-- `is_field`: the tests in their turn. Assumes nothing.
use mathlib.Core.Path.{◌≡◌, ◌∙◌}
use mathlib.Core.Bool.{Bool, true, false}
use mathlib.Core.Logic.{◌⊎◌, inl, inr}
use mathlib.Core.List.{List}
use Prim.Native.Nat.{ℕ, ◌%◌, ◌≤◌, ◌<◌}
use native.Mathlib.Omega.{arith}
use borrow.Author.Tests.{eq-eqb, ne_eqb, le-leb, lt-leb}
use Rattle.doubles.specs.Num.{◌and◌}
use Rattle.files.specs.Problem.{good_field, known_tag, tag_at, length_at, element_size}
use Rattle.files.proofs.Laws.Fields.{head_inside, known_as}
use Rattle.files.proofs.is_field.Goals as goal

-- one of the first three tests fails
failed : (f : List ℕ) (o last before : ℕ) {k : Bool} {m n : ℕ} → k ≡ known_tag f (tag_at f o) → m ≡ length_at f o → n ≡ element_size (tag_at f o)
    → (k ≡ true × last ≤ tag_at f o × (m % n ≡ 0 → ⊥)) ⊎ (k ≡ true × tag_at f o < last) ⊎ k ≡ false
    → good_field f o last before ≡ false
unfolding good_field ◌and◌
failed f o last before ek em en (inl h) = rw (← ek, h.0, le-leb _ _ h.1, ← em, ← en, ne_eqb _ _ h.2)
failed f o last before ek em en (inr (inl h)) = rw (← ek, h.0, lt-leb _ _ h.1)
failed f o last before ek em en (inr (inr h)) = rw (← ek, h)

pub bounds-file-c : goal.bounds-file-c
bounds-file-c c = let h = head_inside _ _ c.requires.0 in omega arith

pub overflow_add-c : goal.overflow_add-c
overflow_add-c c = let h = head_inside _ _ c.requires.0 in omega arith

pub u16_at-many-requires : goal.u16_at-many-requires
u16_at-many-requires c = let h = head_inside _ _ c.requires.0 in (omega arith, c.requires.1)

pub returns-then-no_rest : goal.returns-then-no_rest
unfolding good_field ◌and◌
returns-then-no_rest c =
    let h = c.if-no_rest.true in
    let known = c.is_known.ensures ∙ known_as _ _ _ c.requires.3 in
    rw (← known, h.0, le-leb _ _ h.1, ← c.u16_at-many.ensures.0, ← c.size_of.ensures, eq-eqb _ _ h.2) c.is_stored.ensures

pub returns-else-no_rest : goal.returns-else-no_rest
returns-else-no_rest c =
    let known = c.is_known.ensures ∙ known_as _ _ _ c.requires.3 in
    let h = failed _ c.args.c.at c.args.c.tag c.args.c.counts.values known c.u16_at-many.ensures.0 c.size_of.ensures c.if-no_rest.either in
    cc
