-- The parts of a working set: the support and the others share out the features, so the size cuts none of the support and leaves no place empty.
-- Assumes nothing.
use mathlib.Core.Path.{◌≡◌, refl, sym}
use mathlib.Core.Bool.{Bool, true, false}
use mathlib.Core.List.{List, [], ◌∷◌, ◌++◌}
use Prim.Native.Nat.{ℕ, zero, suc, ◌+◌, ◌*◌, ◌-◌, ◌≤◌, ◌<◌}
use native.Mathlib.Nat.{le_refl}
use native.Mathlib.Omega.{arith}
use lib.Dec.{ltb}
use lib.Ieee.{Float}
use lib.ListN.{length, get_or, take, length-append}
use lib.Seq.{length-take-le, take-append-add}
use borrow.Author.Tests.{ltb-false}
use Rattle.doubles.specs.Num.{pick}
use Rattle.doubles.specs.Steps.{steps}
use Rattle.doubles.specs.Inner.Order.{Each}
use Rattle.doubles.proofs.Laws.Steps.{steps-more}
use Rattle.doubles.proofs.Laws.Counts.{each_none, each-cons, each_append, each_take}
use Rattle.definition.specs.WorkingSet.{is_zero, smaller, greater, support, size, others, working_set}
use Rattle.selection.proofs.Laws.Others.{share_out, others-each}

-- ---- one feature more
pub support-more : (w : List Float) (j : ℕ) → support w (j + 1) ≡ pick (is_zero w j) (support w j) (support w j ++ (j ∷ []))
unfolding support
support-more w j = sym (steps-more (λ j l. pick (is_zero w j) l (l ++ (j ∷ []))) [] j (support w j) refl)

pub support-few : (w : List Float) (n : ℕ) → length (support w n) ≤ n
support-few w n = let e = share_out w w n in omega arith

-- each is a feature passed
support-below : (w : List Float) (n m : ℕ) → n ≤ m → Each (λ j. j < m) (support w n)
unfolding support steps
support-below w zero m h = each_none (λ j. j < m)
support-below w (suc n) m h = go (is_zero w n) (support-below w n m (omega arith))
  where
    go : (t : Bool) → Each (λ j. j < m) (support w n) → Each (λ j. j < m) (pick t (support w n) (support w n ++ (n ∷ [])))
    go true b = b
    go false b = each_append (λ j. j < m) (support w n) (n ∷ []) b (each-cons (λ j. j < m) n [] (omega arith) (each_none (λ j. j < m)))

-- ---- the size
two_of : (start a n s : ℕ) → a ≤ n → start ≤ n → s ≡ greater start (smaller (2 * a) n) → (a ≤ s) × (s ≤ n)
two_of start a n s h k e = go (ltb n (2 * a)) refl
  where
    last : (g : ℕ) (t : Bool) → ltb start g ≡ t → a ≤ g → g ≤ n → s ≡ pick t g start → (a ≤ s) × (s ≤ n)
    last g true q l m e = (rw e l, rw e m)
    last g false q l m e = let z = ltb-false start g q in (rw e (omega arith), rw e k)

    go : (t : Bool) → ltb n (2 * a) ≡ t → (a ≤ s) × (s ≤ n)
    go true q = last n (ltb start n) refl h (le_refl n) (rw q at e)
    go false q = let z = ltb-false n (2 * a) q in last (2 * a) (ltb start (2 * a)) refl (omega arith) z (rw q at e)

module _ (start : ℕ) (w : List Float) (h : start ≤ length w) where
  pub size_most : size start w ≤ length w
  unfolding size
  size_most = (two_of start (length (support w (length w))) (length w) (size start w) (support-few w (length w)) h refl).1

  pub size_least : length (support w (length w)) ≤ size start w
  unfolding size
  size_least = (two_of start (length (support w (length w))) (length w) (size start w) (support-few w (length w)) h refl).0

  module _ (v : List Float) where
    -- all of the support, and then as many of the others as the size leaves
    pub working_set_parts : working_set start v w ≡ support w (length w) ++ take (size start w - length (support w (length w))) (others v w (length w))
    unfolding working_set
    working_set_parts =
        let s = support w (length w) in
        let l : length s ≤ size start w = size_least in
        let e : length s + (size start w - length s) ≡ size start w = omega arith in
        rw e at (take-append-add s (others v w (length w)) (size start w - length s))

    pub length-working_set : length (working_set start v w) ≡ size start w
    unfolding working_set
    length-working_set =
        let a = length-append (support w (length w)) (others v w (length w)) in
        let b = share_out v w (length w) in
        let c = size_most in
        length-take-le (size start w) (support w (length w) ++ others v w (length w)) (omega arith)

    -- each of its features is one of the design
    pub working_set-each : (k : ℕ) → k < length (working_set start v w) → get_or (working_set start v w) k 0 < length w
    unfolding working_set
    working_set-each =
        let below : ℕ → Type 0 = λ j. j < length w in
        (each_take below (size start w) (support w (length w) ++ others v w (length w))
        (each_append below (support w (length w)) (others v w (length w))
        (support-below w (length w) (length w) (le_refl (length w)))
        (others-each below v w (length w) (λ j h z. h)))
        ).each
