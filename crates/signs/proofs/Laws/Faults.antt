-- A call is refused for the sizes of what it is given, for the settings, for a number that is not finite, or for a constant, and these are the same: none
-- of these turns. Assumes nothing.
use mathlib.Core.Path.{◌≡◌, ap}
use mathlib.Core.Bool.{Bool, not}
use mathlib.Core.List.{List}
use Prim.Native.Nat.{ℕ, ◌+◌}
use lib.ListN.{length}
use lib.Ieee.{Float}
use Rattle.doubles.specs.Num.{at, finite}
use Rattle.doubles.specs.Sign.{Turned, Signs}
use Rattle.doubles.specs.Answer.{none}
use Rattle.doubles.proofs.Laws.Compare.{finite-turned}
use Rattle.doubles.proofs.Laws.Signs.{signs-at, signs-length}
use Rattle.doubles.proofs.Laws.Steps.{steps-same}
use Rattle.designs.specs.Search.{or_else, mark}
use Rattle.designs.specs.Given.{Given}
use Rattle.designs.specs.Checks.{told, lengths, sizes, not_finite, numbers, csc_fault, contents, sized_fault, admitted, preparation_fault}
use Rattle.std.specs.Prelude.{Option, None}
use Rattle.designs.specs.declared.Layout.{Layout}
use Rattle.designs.specs.declared.Layout.TheVariants.{Dense, Csc}
use Rattle.definition.specs.Preparation.{usable}
use Rattle.definition.specs.Call.{Lent, acceptable, acceptable_at, handed_fault, early_fault, solve_tests, solve_fault}
use Rattle.definition.specs.Walk.{walk_early, walk_tests}
use Rattle.definition.specs.declared.Settings.{Settings}
use Rattle.signs.specs.Turning.{with_numbers, HandedTurning}

place_same : {s : ℕ → Bool} {xs xs' : List Float} → Signs s xs xs' → (from : ℕ) → not_finite xs from ≡ not_finite xs' from
unfolding not_finite
place_same {s} {xs} {xs'} p from =
    rw (← signs-length p)
    (steps-same (λ k r. or_else r (mark (not (finite (at xs k))) (from + k))) (λ k r. or_else r (mark (not (finite (at xs' k))) (from + k))) (length xs) None
    (λ k l r. ap (λ (x : Bool). or_else r (mark (not x) (from + k))) (finite-turned (signs-at p k))))

-- 10
acceptable-same : {s : Bool} {constant xty constant' xty' : Float} → constant ≡ constant' → Turned s xty xty'
    → acceptable constant xty ≡ acceptable constant' xty'
unfolding acceptable usable
acceptable-same e h = rw (e, finite-turned h)

handed_same : {c : ℕ → Bool} {t : Bool} {p : ℕ} {handed handed' : List Float} → HandedTurning c t p handed handed'
    → handed_fault p handed ≡ handed_fault p handed'
unfolding handed_fault
handed_same {p = p} {handed = handed} {handed' = handed'} h =
    ap (λ (r : Option ℕ). told 10 r none)
    (steps-same (λ j r. or_else r (mark (not (acceptable_at p handed j)) j)) (λ j r. or_else r (mark (not (acceptable_at p handed' j)) j)) p None
    (λ j l r. ap (λ (x : Bool). or_else r (mark (not x) j)) (acceptable-same (h.constants j l) (h.products j l))))

module _ (g : Given) {σ τ : ℕ → Bool} {values' y' : List Float} (v : Signs σ g.values values') (u : Signs τ g.targets y') where
  abbrev g' : Given
  g' = with_numbers g values' y'

  lengths-same : (l : Layout) (n p : ℕ) → lengths l n p g.starts g.rows g.values ≡ lengths l n p g.starts g.rows values'
  unfolding lengths
  lengths-same Dense n p = rw (signs-length v)
  lengths-same Csc n p = rw (signs-length v)

  sizes-same : sizes g.shape g.starts g.rows g.values ≡ sizes g.shape g.starts g.rows values'
  unfolding sizes
  sizes-same = rw (lengths-same g.shape.layout g.shape.n g.shape.p, signs-length v)

  numbers-same : (n : ℕ) → numbers n g.values g.targets ≡ numbers n values' y'
  unfolding numbers
  numbers-same n = rw (place_same v n, place_same u 0)

  contents-same : (l : Layout) → contents l g ≡ contents l g'
  unfolding contents csc_fault
  contents-same Dense = numbers-same g.shape.n
  contents-same Csc = rw (signs-length v, numbers-same g.shape.n)

  -- ---- the preparation's 1 to 6, and all tests of a solve
  pub preparation-same : (buf : List Float) → preparation_fault g buf ≡ preparation_fault g' buf
  unfolding preparation_fault admitted sized_fault
  preparation-same buf = rw (sizes-same, signs-length u, contents-same g.shape.layout)

  module _ (S : Settings) (handed handed' : List Float) (b : Lent) where
    tests_same : length handed ≡ length handed' → solve_tests g S handed b ≡ solve_tests g' S handed' b
    unfolding solve_tests early_fault sized_fault
    tests_same e = rw (sizes-same, signs-length u, contents-same g.shape.layout, e)

    pub fault_same : {c : ℕ → Bool} {t : Bool} → HandedTurning c t g.shape.p handed handed' → solve_fault g S handed b ≡ solve_fault g' S handed' b
    unfolding solve_fault
    fault_same h = rw (tests_same h.size, handed_same h)

    -- on the same numbers too, whatever they are
    pub fault_same-numbers : handed ≡ handed' → solve_fault g S handed b ≡ solve_fault g' S handed' b
    unfolding solve_fault
    fault_same-numbers e = rw (tests_same (ap length e), e)

  -- ---- and of a walk: the list does not turn
  pub walk_tests-same : (S : Settings) (alphas buf : List Float) (b : Lent) → walk_tests g S alphas buf b ≡ walk_tests g' S alphas buf b
  unfolding walk_tests walk_early early_fault sized_fault
  walk_tests-same S alphas buf b = rw (sizes-same, signs-length u, contents-same g.shape.layout)
