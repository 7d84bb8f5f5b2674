-- Demand 3 in its plain cases: the second pair of calls is given the very numbers of the first, negated. Assumes nothing.
use mathlib.Core.Path.{◌≡◌, sym, ◌∙◌}
use mathlib.Core.Bool.{Bool, true, false}
use mathlib.Core.List.{List, [], ◌∷◌}
use Prim.Native.Nat.{ℕ, zero, suc, ◌+◌, ◌*◌, ◌%◌, ◌≤◌, ◌<◌}
use native.Mathlib.Nat.{le_refl, le_trans, lt_of_lt_of_le, not-suc-le-zero, mod-eq_of_lt, mul-add-mod_self_right}
use native.Mathlib.Numerals.{add-one}
use native.Mathlib.Omega.{arith}
use borrow.Author.Count.{below_more}
use borrow.Author.Tests.{le-leb, lt-leb}
use lib.ListN.{get_or}
use lib.Ieee.{Float, unlike}
use Rattle.doubles.specs.Sign.{Turned, Signs, none, more}
use Rattle.doubles.proofs.Laws.Turned.{turned-refl, turned_by}
use Rattle.doubles.proofs.Laws.Compare.{eq_turned}
use Rattle.doubles.proofs.Laws.Signs.{zero-turned, signs-at}
use Rattle.doubles.specs.Steps.{steps}
use Rattle.designs.specs.Design.{dense, csc, laid}
use Rattle.designs.specs.Given.{Given}
use Rattle.designs.specs.Checks.{targets_fit, room_twice, preparation_fault}
use Rattle.designs.specs.Inner.Sound.{Rising, Held}
use Rattle.designs.proofs.Laws.Passed.{admits}
use Rattle.designs.specs.declared.Layout.{Layout}
use Rattle.designs.specs.declared.Layout.TheVariants.{Dense, Csc}
use Rattle.doubles.specs.Answer.{refused, answered, none as no_fault}
use Rattle.definition.specs.WorkingSet.{is_zero}
use Rattle.definition.specs.Preparation.{prepare_call, prepare_left}
use Rattle.definition.specs.Call.{Lent, solve_fault}
use Rattle.definition.specs.Pair.{pair_call, pair_left}
use Rattle.definition.specs.declared.Report.{Report}
use Rattle.definition.specs.declared.Settings.{Settings}
use Rattle.signs.specs.Turning.{with_numbers, SameCall, turned, signs_of, SameWalk}
use Rattle.signs.proofs.SignLaw.{sign_law_passed, sign_law}
use Rattle.signs.proofs.WalkLaw.{walk_law_passed}

signs_of_lem : (s : ℕ → Bool) (xs : List Float) → Signs s xs (turned s xs)
unfolding turned
signs_of_lem s [] = none
signs_of_lem s (x ∷ xs) = more (turned_by (s 0) x) (signs_of_lem (λ (k : ℕ). s (suc k)) xs)

signs-refl : (xs : List Float) → Signs (λ (i : ℕ). false) xs xs
signs-refl [] = none
signs-refl (x ∷ xs) = more turned-refl (signs-refl xs)

-- "turn all targets": for every design and all settings
pub targets-turned : (g : Given) (S : Settings) (buf : List Float) (b : Lent)
    → SameCall (λ (j : ℕ). false) true g (with_numbers g g.values (turned (λ (i : ℕ). true) g.targets)) S buf b
targets-turned g S buf b =
    sign_law
    (record {
      signs = λ (i : ℕ). false;
      stored = signs-refl g.values;
      columns = λ j k l m. turned-refl;
      targets = signs_of_lem (λ (i : ℕ). true) g.targets;
    })
    S buf b

-- ---- a stored entry's sign is its column's
dense-sign : (k p j : ℕ) → j < p → (k * p + j) % p ≡ j
dense-sign k p j h = mul-add-mod_self_right k p j ∙ mod-eq_of_lt h

module _ {p m : ℕ} {starts : List ℕ} (R : Rising p m starts) where
  no_fall : (b k : ℕ) → k < b + 1 → b ≤ p → get_or starts k 0 ≤ get_or starts b 0
  no_fall zero k l h = below_more (λ (k : ℕ). get_or starts k 0 ≤ get_or starts 0 0) 0 (λ k l. absurd (not-suc-le-zero l)) (le_refl (get_or starts 0 0)) k l
  no_fall (suc b) k l h =
      below_more (λ (k : ℕ). get_or starts k 0 ≤ get_or starts (suc b) 0) (suc b)
      (λ k l. le_trans (no_fall b k (omega arith) (omega arith)) (rw add-one at (R.up b (omega arith))))
      (le_refl (get_or starts (suc b) 0)) k l

  csc-sign : (c : ℕ → Bool) (i q : ℕ) → q ≤ p → (j : ℕ) → j < q → get_or starts j 0 ≤ i → i < get_or starts (j + 1) 0 → signs_of Csc c q starts i ≡ c j
  unfolding signs_of steps
  csc-sign c i zero h j l a b = absurd (not-suc-le-zero l)
  csc-sign c i (suc q) h j l a b =
      below_more (λ (k : ℕ). get_or starts k 0 ≤ i → i < get_or starts (k + 1) 0 → signs_of Csc c (suc q) starts i ≡ c k) q
      (λ k l a b.
      let d : i < get_or starts q 0 = lt_of_lt_of_le b (no_fall q (k + 1) (omega arith) (omega arith)) in
      rw (lt-leb (get_or starts q 0) i d) (csc-sign c i q (omega arith) k l a b))
      (λ a b. rw (le-leb (get_or starts q 0) i a))
      j (omega arith) a b

entry-turned : (c : ℕ → Bool) (l : Layout) (n p : ℕ) (starts rows : List ℕ) {values values' : List Float} → Held l n p starts rows values
    → Signs (signs_of l c p starts) values values' → (j k : ℕ) → j < p → k < (laid l n p starts rows values).many j
    → Turned (c j) ((laid l n p starts rows values).value j k) ((laid l n p starts rows values').value j k)
unfolding laid dense csc Held signs_of
entry-turned c Dense n p starts rows H v j k l m = rw (dense-sign k p j l) at (signs-at v (k * p + j))
entry-turned c Csc n p starts rows H v j k l m =
    let a = get_or starts j 0 in
    rw (csc-sign H.rising c (a + k) p (le_refl p) j l (omega arith) (omega arith)) at (signs-at v (a + k))

-- "any set of columns, or both": for every design and all settings
pub columns-turned : (c : ℕ → Bool) (t : Bool) (g : Given) (S : Settings) (buf : List Float) (b : Lent)
    → SameCall c t g
    (with_numbers g (turned (signs_of g.shape.layout c g.shape.p g.starts) g.values) (turned (λ (i : ℕ). t) g.targets)) S buf b
unfolding preparation_fault
columns-turned c t g S buf b =
    let s = g.shape in
    let σ = signs_of s.layout c s.p g.starts in
    sign_law_passed g S buf b (signs_of_lem σ g.values) (signs_of_lem (λ (i : ℕ). t) g.targets)
    (λ e. record {
      signs = σ;
      stored = signs_of_lem σ g.values;
      columns =
          entry-turned c s.layout s.n s.p g.starts g.rows (admits g (targets_fit g) (room_twice s.p buf) e).whole (signs_of_lem σ g.values);
      targets = signs_of_lem (λ (i : ℕ). t) g.targets;
    })

-- the same of a walk over a list of alphas
pub walk-turned : (c : ℕ → Bool) (t : Bool) (g : Given) (S : Settings) (alphas : List Float) (most : ℕ) (buf : List Float) (b : Lent)
    → SameWalk c t g
    (with_numbers g (turned (signs_of g.shape.layout c g.shape.p g.starts) g.values) (turned (λ (i : ℕ). t) g.targets)) S alphas most buf b
walk-turned c t g S alphas most buf b =
    let σ = signs_of g.shape.layout c g.shape.p g.starts in
    walk_law_passed g buf b (signs_of_lem σ g.values) (signs_of_lem (λ (i : ℕ). t) g.targets) (λ S'. columns-turned c t g S' buf b) S alphas most

-- ---- what follows from the pair's law
module _ {c : ℕ → Bool} {t : Bool} {g g' : Given} {S : Settings} {buf : List Float} {b : Lent} (law : SameCall c t g g' S buf b) where
  -- a NaN target is refused with 6 at the same place, and so is whatever else is refused
  pub refused-both : (number place : ℕ) → pair_call g S buf b ≡ refused number place → pair_call g' S buf b ≡ refused number place
  refused-both number place e = sym law.answer ∙ e

  -- the tolerance is met by both or by none: the report is the same
  pub report-both : (r : Report) → pair_call g S buf b ≡ answered r → pair_call g' S buf b ≡ answered r
  report-both r e = sym law.answer ∙ e

  -- a weight is left zero by both or by none
  pub zeros-both : prepare_call g buf ≡ no_fault → solve_fault g S (prepare_left g buf) b ≡ no_fault → (j : ℕ) → j < g.shape.p
      → is_zero (pair_left g S buf b).weights j ≡ is_zero (pair_left g' S buf b).weights j
  zeros-both e h j l = eq_turned ((law.left e h).weights j l) (zero-turned (unlike (c j) t))
