-- Violations, one feature after another: as long as all are finite the largest goes on, and the first that is not ends the loop. Assumes nothing.
use mathlib.Core.Path.{◌≡◌, ap, ◌∙◌}
use mathlib.Core.Bool.{Bool, true, false}
use mathlib.Core.List.{List}
use Prim.Native.Nat.{ℕ, ◌+◌, ◌≤◌, ◌<◌}
use lib.Ieee.{Float, inf, binary64, of_bits}
use lib.ListN.{length}
use Rattle.std.specs.Prelude.{Result, Err}
use Rattle.std.specs.Result.{IsErrAnd}
use Rattle.std.proofs.lemmas.Result.{err_from_is_err_and}
use Rattle.doubles.specs.declared.NotFinite.{NotFinite}
use Rattle.doubles.specs.Num.{at, finite, larger, pick, ◌and◌}
use Rattle.doubles.specs.Steps.{Stage, going, bad, all, largest, tab}
use Rattle.doubles.proofs.Laws.Steps.{steps-none, steps-turn, steps_all, steps-same, tab-same, all_more, all_broken, picked, not_picked}
use Rattle.penalties.specs.Penalty.{violation}
use Rattle.penalties.specs.declared.separable.Penalty.{Penalty}
use Rattle.designs.specs.Design.{Design, design, full_gradient}
use Rattle.designs.specs.declared.Shape.{Shape}
use Rattle.designs.proofs.Laws.Layouts.{features}
use Rattle.designs.proofs.Laws.Gradients.{length_gradients, gradients_at}
use Rattle.definition.specs.Epoch.{Task, task, gradient_of, violation_of, known, all_known, violations, worst}
use Rattle.visits.specs.Inner.Reading.{violation_at, violation_there, known_there, finished, measured}

-- what a `?` hands on
pub broken_off : {A : Type 0} (r : Result A NotFinite) {e : NotFinite} → IsErrAnd r (λ y. y ≡ e) → r ≡ Err e
broken_off r h = let p = err_from_is_err_and r h in p.1 ∙ ap Err p.2

-- ---- what is known of one feature's answer
module _ (penalty : Penalty) (w g : Float) where
  is_known : {v : Float} → going v ≡ violation_at penalty w g → (finite g and finite (violation penalty w g) ≡ true) × (v ≡ violation penalty w g)
  unfolding violation_at
  is_known {v} e = picked _ _ v e

  is_bad : bad ≡ violation_at penalty w g → finite g and finite (violation penalty w g) ≡ false
  unfolding violation_at
  is_bad e = not_picked _ _ e

-- ---- a loop over features, where w and g give each one's weight and gradient
abbrev pub all_of : Penalty → (ℕ → Float) → (ℕ → Float) → ℕ → Bool
all_of penalty w g n = all (λ k. finite (g k) and finite (violation penalty (w k) (g k))) n

abbrev pub largest_of : Penalty → (ℕ → Float) → (ℕ → Float) → ℕ → Float
largest_of penalty w g n = largest (λ k. violation penalty (w k) (g k)) n

-- the first i had finite gradients and violations, whose largest is l
pub record Passed (penalty : Penalty) (w g : ℕ → Float) (i : ℕ) (l : Float) : Type 0 where
  pub finites : true ≡ all_of penalty w g i
  pub worst : l ≡ largest_of penalty w g i

pub passed_none : {penalty : Penalty} {w g : ℕ → Float} → Passed penalty w g 0 (of_bits binary64 0xfff0_0000_0000_0000)
unfolding of_bits
passed_none = record { finites = steps-none _ _; worst = steps-none _ _ }

module _ {penalty : Penalty} {w g : ℕ → Float} {i : ℕ} {l : Float} (p : Passed penalty w g i l) where
  pub passed_all : {A : Type 0} (f : Float → A) (n : ℕ) → i ≤ n → n ≤ i
      → going (f l) ≡ pick (all_of penalty w g n) (going (f (largest_of penalty w g n))) bad
  passed_all f n a b = rw (← steps_all _ _ i n true p.finites a b, ← steps_all _ _ i n l p.worst a b)

  pub passed_more : {v m : Float} → going v ≡ violation_at penalty (w i) (g i) → m ≡ larger l v → Passed penalty w g (i + 1) m
  passed_more {v} {m} e h =
      let a = is_known penalty (w i) (g i) e in
      record { finites = all_more _ i p.finites a.0; worst = steps-turn _ _ i l m p.worst (rw (← a.1) h) }

  pub passed_bad : {A : Type 0} (x : A) (n : ℕ) → bad ≡ violation_at penalty (w i) (g i) → i < n → bad ≡ pick (all_of penalty w g n) (going x) bad
  passed_bad x n e h = rw (← all_broken _ i n p.finites (is_bad penalty (w i) (g i) e) h)

  pub passed_value : {v : Float} → going v ≡ violation_at penalty (w i) (g i) → v ≡ violation penalty (w i) (g i)
  passed_value {v} e = (is_known penalty (w i) (g i) e).1

-- the answer for feature j of all, of its weight a and its gradient x
pub of_place : (penalty : Penalty) (w g : List Float) (j : ℕ) (a x : Float) (r : Stage Float) → a ≡ at w j → x ≡ at g j → r ≡ violation_at penalty a x
    → r ≡ violation_at penalty (at w j) (at g j)
of_place penalty w g j a x r ea ex e = e ∙ rw (ea, ex)

-- ---- the slice whose first gradients are violations already: how the loop over it ends
module _ (penalty : Penalty) (w g : List Float) {i : ℕ} {x : Float} (h : Passed penalty (at w) (at g) i x) where
  pub finished-bad : bad ≡ violation_at penalty (at w i) (at g i) → i < length g → bad ≡ finished penalty w g
  unfolding finished
  finished-bad e k = passed_bad h _ (length g) e k

  pub finished-all : (l : List Float) → l ≡ tab (violation_there penalty w g) (length g) → i ≤ length g → length g ≤ i
      → going (record { largest = x; violations = l }) ≡ finished penalty w g
  unfolding finished
  finished-all l e a b = passed_all h (λ x. record { largest = x; violations = l }) (length g) a b ∙ rw e

-- ---- of the gradients of all features, what is finished is what the definition measures
module _ (s : Shape) (starts rows : List ℕ) (values : List Float) (penalty : Penalty) (prepared w fit : List Float) where
  abbrev X : Design
  X = design s starts rows values

  abbrev T : Task
  T = task s starts rows values penalty prepared

  abbrev gradients : List Float
  gradients = full_gradient X fit (λ j. at prepared (s.p + j))

  p-features : X.p ≡ s.p
  p-features = features s.layout s.n s.p starts rows values

  long_gradients : length gradients ≡ s.p
  long_gradients = length_gradients X fit (λ j. at prepared (s.p + j)) ∙ p-features

  gradient-same : (j : ℕ) → j < s.p → at gradients j ≡ gradient_of T fit j
  unfolding gradient_of
  gradient-same j h = gradients_at X fit (λ j. at prepared (s.p + j)) j (rw p-features h)

  violation-same : (j : ℕ) → j < s.p → violation_there penalty w gradients j ≡ violation_of T w fit j
  unfolding violation_of
  violation-same j h = ap (violation penalty (at w j)) (gradient-same j h)

  known_same : (j : ℕ) → j < s.p → known_there penalty w gradients j ≡ known T w fit j
  unfolding known violation_of
  known_same j h = rw (gradient-same j h)

  pub finished-measured : finished penalty w gradients ≡ measured T w fit
  unfolding finished measured all_known worst violations
  finished-measured =
      let p = s.p in
      let f = violation_there penalty w gradients in
      let a : all (known_there penalty w gradients) p ≡ all (known T w fit) p =
      steps-same (λ i b. b and known_there penalty w gradients i) (λ i b. b and known T w fit i) p true
      (λ k h b. ap (λ (z : Bool). b and z) (known_same k h)) in
      let v : largest f p ≡ largest (violation_of T w fit) p =
      steps-same (λ i v. larger v (f i)) (λ i v. larger v (violation_of T w fit i)) p (inf true) (λ k h b. ap (larger b) (violation-same k h)) in
      let t : tab f p ≡ tab (violation_of T w fit) p = tab-same f (violation_of T w fit) p violation-same in
      rw (long_gradients, a, v, t)
