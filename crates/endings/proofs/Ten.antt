-- Refusal 10 at the first column that is not acceptable: the search finds it and no other, and nothing else of a solve gives 10. Assumes nothing.
use mathlib.Core.Path.{◌≡◌, refl, sym}
use mathlib.Core.Bool.{not}
use mathlib.Core.List.{List}
use Prim.Native.Nat.{ℕ}
use native.Mathlib.Omega.{arith}
use borrow.Author.Tests.{not-true}
use lib.Ieee.{Float}
use Rattle.doubles.specs.Answer.{refused, none}
use Rattle.doubles.proofs.Laws.Ends.{refused≢answered}
use Rattle.designs.specs.Given.{Given}
use Rattle.designs.specs.Search.{first_of, mark}
use Rattle.designs.specs.Checks.{told}
use Rattle.std.specs.Prelude.{Option, Some, None}
use Rattle.designs.proofs.Laws.Search.{marked, unmarked, none_first, first_here, FirstAt, first_found}
use Rattle.definition.specs.Call.{Lent, acceptable_at, handed_fault, solve_tests, solve_fault, solve_end, solve_call, solve_left}
use Rattle.definition.specs.declared.Settings.{Settings}
use Rattle.definition.proofs.Laws.Handed.{is-not}
use Rattle.definition.proofs.Laws.Refusals.{From, from-tests, from-numbers, from-run, refused-from}
use Rattle.endings.specs.Ten.{FirstSuch, Ten}

-- ---- the search
module _ (p : ℕ) (handed : List Float) where
  abbrev such : ℕ → Option ℕ
  such j = mark (not (acceptable_at p handed j)) j

  found : (place : ℕ) → handed_fault p handed ≡ refused 10 place → FirstSuch p handed place
  unfolding handed_fault
  found place = go (first_of such p) refl
    where
      first : (k : ℕ) → FirstAt such p k → FirstSuch p handed k
      first k f =
          let m = marked (not (acceptable_at p handed f.spot)) f.spot k f.here in
          rw (← m.1) (record { column = f.inside; fails = not-true _ m.0; before = λ j l. is-not _ (unmarked _ j (f.before j l)) })

      go : (r : Option ℕ) → first_of such p ≡ r → told 10 r none ≡ refused 10 place → FirstSuch p handed place
      go (Some k) q e = let n : k ≡ place = cc in rw (← n) (first k (first_found such p k q))
      go None q e = absurd (refused≢answered (sym e))

  finds : (place : ℕ) → FirstSuch p handed place → handed_fault p handed ≡ refused 10 place
  unfolding handed_fault
  finds place f =
      let before = none_first such place (λ j l. rw (f.before j l)) in
      rw (← first_here such place p place (such place) (sym before) refl (rw f.fails) f.column)

-- ---- the call
module _ (g : Given) (S : Settings) (handed : List Float) (b : Lent) where
  refused-behind : (place : ℕ) → solve_call g S handed b ≡ refused 10 place
      → (solve_tests g S handed b ≡ none) × (handed_fault g.shape.p handed ≡ refused 10 place)
  refused-behind place e = go (refused-from g S handed b 10 place e)
    where
      go : From g S handed b 10 place → (solve_tests g S handed b ≡ none) × (handed_fault g.shape.p handed ≡ refused 10 place)
      go (from-tests t l) = absurd (omega (arith, l))
      go (from-numbers t n l) = (t, n)
      go (from-run t r l) = absurd (omega (arith, l))

  ten_if : (place : ℕ) → solve_tests g S handed b ≡ none → FirstSuch g.shape.p handed place → solve_call g S handed b ≡ refused 10 place
  unfolding solve_call solve_end solve_fault
  ten_if place t f = rw (t, finds g.shape.p handed place f)

  left-unchanged : (place : ℕ) → solve_call g S handed b ≡ refused 10 place → solve_left g S handed b ≡ b
  unfolding solve_left solve_end solve_fault
  left-unchanged place e = let r = refused-behind place e in rw (r.0, r.1)

  pub ten : Ten g S handed b
  ten = record {
    only = λ place e. (let r = refused-behind place e in (r.0, found g.shape.p handed place r.1));
    whenever = ten_if;
    unchanged = left-unchanged;
  }
