-- Lists of the same numbers, by how often each stands in them: what a store or one number more changes, and what holds of each. Assumes nothing.
use mathlib.Core.Path.{◌≡◌, refl, ◌∙◌}
use mathlib.Core.Bool.{Bool, true, false}
use mathlib.Core.List.{List, [], ◌∷◌, ◌++◌}
use Prim.Native.Nat.{ℕ, zero, suc, ◌+◌, ◌<◌}
use native.Mathlib.Nat.{zero-lt-suc, add-zero}
use native.Mathlib.Omega.{arith}
use lib.Dec.{eqb}
use lib.ListN.{length, get_or, take, drop, set, take-append-drop}
use borrow.Author.Tests.{eqb-true, eq-eqb}
use Rattle.doubles.specs.Inner.Order.{Each, is, often, Same}

pub is_self : (a : ℕ) → is a a ≡ 1
unfolding is
is_self a = rw (eq-eqb a a refl)

is-other : (a b : ℕ) → eqb a b ≡ false → is a b ≡ 0
unfolding is
is-other a b e = rw e

-- ---- another number in a place, or more behind
pub count_set : (a : ℕ) (l : List ℕ) (k x : ℕ) → k < length l → often a (set l k x) + is a (get_or l k 0) ≡ often a l + is a x
unfolding often
count_set a [] k x h = absurd (omega arith)
count_set a (b ∷ l) zero x h = omega arith
count_set a (b ∷ l) (suc k) x h = let e = count_set a l k x (omega arith) in omega arith

pub count-append : (a : ℕ) (l m : List ℕ) → often a (l ++ m) ≡ often a l + often a m
unfolding often
count-append a [] m = omega arith
count-append a (b ∷ l) m = let e = count-append a l m in omega arith

pub count-cons : (a b : ℕ) (l : List ℕ) → often a (b ∷ l) ≡ is a b + often a l
unfolding often
count-cons a b l = refl

pub count_one : (a x : ℕ) → often a (x ∷ []) ≡ is a x
unfolding often
count_one a x = add-zero (is a x)

-- ---- what holds of each
pub each_none : (P : ℕ → Type 0) → Each P []
each_none P = record { each = λ k h. absurd (omega arith) }

pub each-cons : (P : ℕ → Type 0) (a : ℕ) (l : List ℕ) → P a → Each P l → Each P (a ∷ l)
each-cons P a l p f = record { each = go }
  where
    go : (k : ℕ) → k < suc (length l) → P (get_or (a ∷ l) k 0)
    go zero h = p
    go (suc k) h = f.each k (omega arith)

each-rest : (P : ℕ → Type 0) (a : ℕ) (l : List ℕ) → Each P (a ∷ l) → Each P l
each-rest P a l f = record { each = λ k h. f.each (suc k) (omega arith) }

pub each_append : (P : ℕ → Type 0) (l m : List ℕ) → Each P l → Each P m → Each P (l ++ m)
each_append P [] m f g = g
each_append P (a ∷ l) m f g = each-cons P a (l ++ m) (f.each 0 (zero-lt-suc (length l))) (each_append P l m (each-rest P a l f) g)

pub each_front : (P : ℕ → Type 0) (l m : List ℕ) → Each P (l ++ m) → Each P l
each_front P [] m f = each_none P
each_front P (a ∷ l) m f = each-cons P a l (f.each 0 (zero-lt-suc (length (l ++ m)))) (each_front P l m (each-rest P a (l ++ m) f))

pub each_take : (P : ℕ → Type 0) (n : ℕ) (l : List ℕ) → Each P l → Each P (take n l)
each_take P n l f = each_front P (take n l) (drop n l) (rw take-append-drop f)

-- ---- what stands in a list is counted, and of what is counted holds what holds of each
pub counted : (l : List ℕ) (k : ℕ) → k < length l → 0 < often (get_or l k 0) l
unfolding often
counted [] k h = absurd (omega arith)
counted (b ∷ l) zero h = let e = is_self b in omega arith
counted (b ∷ l) (suc k) h = let e = counted l k (omega arith) in omega arith

pub counted_each : (P : ℕ → Type 0) (a : ℕ) (l : List ℕ) → 0 < often a l → Each P l → P a
unfolding often
counted_each P a [] h f = absurd (omega arith)
counted_each P a (b ∷ l) h f = go (eqb a b) refl (counted_each P a l)
  where
    go : (t : Bool) → eqb a b ≡ t → (0 < often a l → Each P l → P a) → P a
    go true e r = rw (eqb-true a b e) (f.each 0 (zero-lt-suc (length l)))
    go false e r = let z = is-other a b e in r (omega arith) (each-rest P b l f)

-- what holds of each number of one list holds of each of the other
pub same-each : (P : ℕ → Type 0) (l m : List ℕ) → Same m l → Each P l → Each P m
same-each P l m s f = record {
  each = λ k h.
      let e = s.each (get_or m k 0) in
      let c = counted m k h in
      counted_each P (get_or m k 0) l (omega arith) f;
}

pub same_self : (l : List ℕ) → Same l l
same_self l = record { each = λ a. refl }

pub same_trans : (l m n : List ℕ) → Same l m → Same m n → Same l n
same_trans l m n s t = record { each = λ a. s.each a ∙ t.each a }
