-- The features with zero weight as the definition ranks them: how many there are, which they are, and that they stand in order. Assumes nothing.
use mathlib.Core.Path.{◌≡◌, refl, sym}
use mathlib.Core.Bool.{Bool, true, false}
use mathlib.Core.List.{List, [], ◌∷◌, ◌++◌}
use Prim.Native.Nat.{ℕ, zero, suc, ◌+◌, ◌≤◌, ◌<◌}
use native.Mathlib.Nat.{zero-lt-suc}
use native.Mathlib.Omega.{arith}
use lib.Ieee.{Float, lt}
use lib.ListN.{length, get_or, length-append}
use Rattle.doubles.specs.Num.{at, pick}
use Rattle.doubles.specs.Steps.{steps}
use Rattle.doubles.specs.Inner.Order.{Behind, Each, OrderedFrom, is, often}
use Rattle.doubles.proofs.Laws.Steps.{steps-more}
use Rattle.doubles.proofs.Laws.Counts.{count-cons, each_none, each-cons, same-each}
use Rattle.doubles.proofs.Laws.Sorted.{ordered_cons, ordered_head, ordered_tail}
use Rattle.definition.specs.WorkingSet.{is_zero, support, insert, others}
use Rattle.selection.specs.Inner.Heap.{ahead, Number, Numbers}
use Rattle.selection.proofs.Laws.Order.{features, behind-larger, behind-later}

-- ---- one feature more
length-insert : (v : List Float) (j : ℕ) (l : List ℕ) → length (insert v j l) ≡ length l + 1
unfolding insert
length-insert v j [] = refl
length-insert v j (k ∷ l) = go (lt (at v k) (at v j)) (length-insert v j l)
  where
    go : (t : Bool) → length (insert v j l) ≡ length l + 1 → length (pick t (j ∷ (k ∷ l)) (k ∷ insert v j l)) ≡ suc (length l) + 1
    go true e = omega arith
    go false e = omega arith

count-insert : (v : List Float) (a j : ℕ) (l : List ℕ) → often a (insert v j l) ≡ often a l + is a j
unfolding often insert
count-insert v a j [] = omega arith
count-insert v a j (k ∷ l) = go (lt (at v k) (at v j)) (count-insert v a j l)
  where
    go : (t : Bool) → often a (insert v j l) ≡ often a l + is a j → often a (pick t (j ∷ (k ∷ l)) (k ∷ insert v j l)) ≡ often a (k ∷ l) + is a j
    go true e = omega arith
    go false e = omega arith

others-more : (v w : List Float) (j : ℕ) → others v w (j + 1) ≡ pick (is_zero w j) (insert v j (others v w j)) (others v w j)
unfolding others
others-more v w j = sym (steps-more (λ j l. pick (is_zero w j) (insert v j l) l) [] j (others v w j) refl)

pub others-length : (v w : List Float) (j : ℕ) → length (others v w (j + 1)) ≡ pick (is_zero w j) (length (others v w j) + 1) (length (others v w j))
others-length v w j = rw (others-more v w j) (go (is_zero w j))
  where
    go : (t : Bool) → length (pick t (insert v j (others v w j)) (others v w j)) ≡ pick t (length (others v w j) + 1) (length (others v w j))
    go true = length-insert v j (others v w j)
    go false = refl

pub others-count : (v w : List Float) (a j : ℕ) → often a (others v w (j + 1)) ≡ pick (is_zero w j) (often a (others v w j) + is a j) (often a (others v w j))
others-count v w a j = rw (others-more v w j) (go (is_zero w j))
  where
    go : (t : Bool) → often a (pick t (insert v j (others v w j)) (others v w j)) ≡ pick t (often a (others v w j) + is a j) (often a (others v w j))
    go true = count-insert v a j (others v w j)
    go false = refl

-- ---- together with the support they are the features
shared : (v w : List Float) (j : ℕ) (t : Bool) (s o : List ℕ) → length o + length s ≡ j
    → length (pick t (insert v j o) o) + length (pick t s (s ++ (j ∷ []))) ≡ suc j
shared v w j true s o e = let n = length-insert v j o in omega arith
shared v w j false s o e = let n = length-append s (j ∷ []) in omega arith

pub share_out : (v w : List Float) (n : ℕ) → length (others v w n) + length (support w n) ≡ n
unfolding others support steps
share_out v w zero = refl
share_out v w (suc n) = shared v w n (is_zero w n) (support w n) (others v w n) (share_out v w n)

-- ---- what holds of each
each-insert : (P : ℕ → Type 0) (v : List Float) (j : ℕ) (l : List ℕ) → P j → Each P l → Each P (insert v j l)
each-insert P v j l p f =
    same-each P (j ∷ l) (insert v j l)
    (record { each = λ a. let e = count-insert v a j l in let c = count-cons a j l in omega arith })
    (each-cons P j l p f)

pub others-each : (P : ℕ → Type 0) (v w : List Float) (n : ℕ) → ((j : ℕ) → j < n → is_zero w j ≡ true → P j) → Each P (others v w n)
unfolding others steps
others-each P v w zero f = each_none P
others-each P v w (suc n) f = go (is_zero w n) refl (others-each P v w n (λ j h. f j (omega arith)))
  where
    go : (t : Bool) → is_zero w n ≡ t → Each P (others v w n) → Each P (pick t (insert v n (others v w n)) (others v w n))
    go true e g = each-insert P v n (others v w n) (f n (omega arith) e) g
    go false e g = g

-- a feature with zero weight has a violation that can be compared
pub number_of : {v w : List Float} → length v ≡ length w → Numbers v w → (j : ℕ) → j < length w → is_zero w j ≡ true → Number v j
number_of e f j h z = record { inside = omega arith; known = f.each j h z }

pub others-known : (v w : List Float) (n : ℕ) → length v ≡ length w → Numbers v w → n ≤ length w → Each (Number v) (others v w n)
others-known v w n e f h = others-each (Number v) v w n (λ j g z. number_of e f j (omega arith) z)

-- ---- they stand in order
ordered_insert : (v : List Float) (j : ℕ) (l : List ℕ) → Number v j → Each (λ x. (x < j) × Number v x) l → OrderedFrom (ahead v) 0 l
    → OrderedFrom (ahead v) 0 (insert v j l)
unfolding insert
ordered_insert v j [] n f o = ordered_cons j [] (each_none (λ x. Behind (ahead v) x j)) o
ordered_insert v j (k ∷ l) n f o =
    go (lt (at v k) (at v j)) refl (ordered_insert v j l n (record { each = λ i h. f.each (suc i) (omega arith) }) (ordered_tail k l o))
  where
    first : Each (λ x. Behind (ahead v) x k) l
    first = ordered_head k l o

    here : (k < j) × Number v k
    here = f.each 0 (zero-lt-suc (length l))

    go : (t : Bool) → lt (at v k) (at v j) ≡ t → OrderedFrom (ahead v) 0 (insert v j l) → OrderedFrom (ahead v) 0 (pick t (j ∷ (k ∷ l)) (k ∷ insert v j l))
    go true e r =
        let b = behind-larger v k j e in
        ordered_cons j (k ∷ l)
        (each-cons (λ x. Behind (ahead v) x j) k l b
        (record { each = λ i h. (features v).through (get_or l i 0) k j (f.each (suc i) (omega arith)).1 here.1 n (first.each i h) b }))
        o
    go false e r =
        let b = here.0 in
        ordered_cons k (insert v j l)
        (each-insert (λ x. Behind (ahead v) x k) v j l (behind-later v j k e (omega arith)) first)
        r

pub others_ordered : (v w : List Float) (n : ℕ) → length v ≡ length w → Numbers v w → n ≤ length w → OrderedFrom (ahead v) 0 (others v w n)
unfolding others steps
others_ordered v w zero len f h = record { each = λ i k p z g. absurd (omega arith) }
others_ordered v w (suc n) len f h = go (is_zero w n) refl (others_ordered v w n len f (omega arith))
  where
    go : (t : Bool) → is_zero w n ≡ t → OrderedFrom (ahead v) 0 (others v w n) → OrderedFrom (ahead v) 0 (pick t (insert v n (others v w n)) (others v w n))
    go true e o =
        ordered_insert v n (others v w n) (number_of len f n h e)
        (others-each (λ x. (x < n) × Number v x) v w n (λ j g z. (g, number_of len f j (omega arith) z)))
        o
    go false e o = o
