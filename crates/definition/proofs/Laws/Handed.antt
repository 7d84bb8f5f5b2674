-- The prepared numbers: what 10 lets pass, and that it lets pass what a preparation left. Assumes nothing.
use mathlib.Core.Path.{◌≡◌, refl}
use mathlib.Core.Bool.{Bool, true, false, not, true≢false, false≢true}
use mathlib.Core.List.{List}
use Prim.Native.Nat.{ℕ, ◌≤◌, ◌<◌}
use lib.Ieee.{Float, lt, eq}
use Rattle.doubles.specs.Num.{◌⊘◌, #0, #1, at, finite, ◌and◌, ◌or◌}
use Rattle.doubles.specs.Answer.{none}
use Rattle.doubles.proofs.Laws.Choice.{and_both}
use Rattle.doubles.proofs.Laws.Steps.{all-each}
use Rattle.designs.specs.Design.{Design, prepared}
use Rattle.designs.specs.Search.{mark}
use Rattle.designs.proofs.Laws.Search.{unmarked, first-none, none_first}
use Rattle.designs.proofs.Laws.Passed.{untold}
use Rattle.designs.proofs.Laws.Preparation.{constant-at, lipschitz-not-below}
use Rattle.definition.specs.Preparation.{usable, usable_at, all_usable}
use Rattle.definition.specs.Call.{acceptable, acceptable_at, handed_fault}

pub is-not : (b : Bool) → not b ≡ false → b ≡ true
is-not true e = refl
is-not false e = absurd (true≢false e)

not-false : (b : Bool) → not b ≡ true → b ≡ false
not-false false e = refl
not-false true e = absurd (false≢true e)

-- ---- what 10 lets pass
pub handed_none : (p : ℕ) (handed : List Float) → handed_fault p handed ≡ none → (j : ℕ) → j < p → acceptable_at p handed j ≡ true
unfolding handed_fault
handed_none p handed e j l =
    is-not _ (unmarked _ j (first-none (λ j. mark (not (acceptable_at p handed j)) j) p (untold 10 _ none e).0 j l))

pub none_handed : (p : ℕ) (handed : List Float) → ((j : ℕ) → j < p → acceptable_at p handed j ≡ true) → handed_fault p handed ≡ none
unfolding handed_fault
none_handed p handed h = rw (none_first (λ j. mark (not (acceptable_at p handed j)) j) p (λ j l. rw (h j l)))

-- of one column
pub record Accepted (constant xty : Float) : Type 0 where
  pub known : finite constant ≡ true
  pub inverse : (eq constant #0 or finite (#1 ⊘ constant)) ≡ true
  pub product : finite xty ≡ true
  pub not-below : lt constant #0 ≡ false

pub accepted : (constant xty : Float) → acceptable constant xty ≡ true → Accepted constant xty
unfolding acceptable usable
accepted constant xty e =
    let a = and_both _ _ e in
    let b = and_both _ _ a.0 in
    let c = and_both _ _ b.1 in
    record { known = b.0; inverse = c.0; product = c.1; not-below = not-false _ a.1 }

-- ---- "a Lipschitz constant is not below zero": what a preparation answered passes
pub prepared_accepted : (X : Design) (y : List Float) → 1 ≤ X.n → X.n ≤ 65536 → all_usable X.p (prepared X y) ≡ true
    → (j : ℕ) → j < X.p → acceptable_at X.p (prepared X y) j ≡ true
unfolding all_usable acceptable ◌and◌
prepared_accepted X y some few u j l =
    let n : lt (at (prepared X y) j) #0 ≡ false = rw (constant-at X y j l) (lipschitz-not-below X j some few) in
    rw (all-each (usable_at X.p (prepared X y)) X.p u j l, n)
