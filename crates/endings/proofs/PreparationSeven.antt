-- Refusal 7 of a preparation exactly where one of its numbers is not finite: the test of all columns fails where one fails, and a column fails by one of
-- its three numbers. Assumes nothing.
use mathlib.Core.Path.{◌≡◌, sym, ◌∙◌}
use mathlib.Core.Bool.{false, true≢false}
use mathlib.Core.List.{List}
use mathlib.Core.Logic.{⊎_elim}
use Prim.Native.Nat.{ℕ, ◌<◌}
use lib.Ieee.{Float}
use Rattle.doubles.specs.Answer.{refused, none}
use Rattle.doubles.proofs.Laws.Ends.{and-fails, or-fails, first-fails, second-fails, neither_holds, all_fail, one_fails}
use Rattle.designs.specs.Given.{Given}
use Rattle.designs.specs.Checks.{preparation_fault}
use Rattle.definition.specs.Preparation.{usable, usable_at, all_usable, prepared_of, prepare_call}
use Rattle.definition.proofs.Laws.Prepared.{answers, refuses}
use Rattle.endings.specs.NotFinite as NotFinite
use Rattle.endings.specs.NotFinite.{NotPrepared, PreparationSeven}

module _ (g : Given) where
  abbrev p : ℕ
  p = g.shape.p

  column-fails : (j : ℕ) → j < p → usable_at p (prepared_of g) j ≡ false → NotPrepared g
  unfolding usable
  column-fails j l e =
      ⊎_elim (λ h. NotFinite.constant j l h)
      (λ r. ⊎_elim (λ h. let b = or-fails _ _ h in NotFinite.inverse j l b.0 b.1) (λ h. NotFinite.xty j l h) (and-fails _ _ r))
      (and-fails _ _ e)

  one_not_finite : all_usable p (prepared_of g) ≡ false → NotPrepared g
  unfolding all_usable
  one_not_finite e = let c = one_fails (usable_at p (prepared_of g)) p e in column-fails c.place c.inside c.fails

  not-usable : NotPrepared g → all_usable p (prepared_of g) ≡ false
  unfolding all_usable usable
  not-usable (NotFinite.constant j l e) = all_fail (usable_at p (prepared_of g)) p j l (first-fails _ _ e)
  not-usable (NotFinite.inverse j l z e) =
      all_fail (usable_at p (prepared_of g)) p j l (second-fails _ _ (first-fails _ _ (neither_holds _ _ z e)))
  not-usable (NotFinite.xty j l e) = all_fail (usable_at p (prepared_of g)) p j l (second-fails _ _ (second-fails _ _ e))

  seven_if : (buf : List Float) → preparation_fault g buf ≡ none → NotPrepared g → prepare_call g buf ≡ refused 7 0
  unfolding prepare_call
  seven_if buf h w = rw (h, not-usable w)

  pub preparation-seven : (buf : List Float) → PreparationSeven g buf
  preparation-seven buf = record {
    only = λ place e. one_not_finite (refuses g buf place e).1;
    whenever = seven_if buf;
    answers = λ e w. true≢false (sym (answers g buf e).1 ∙ not-usable w);
  }
