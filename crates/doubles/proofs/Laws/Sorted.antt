-- Lists in order, for any strict order of numbers. The first of a list in order are determined by its members. The idea: the head of each of two such
-- lists stands in the other, so neither is ahead. Assumes nothing.
use mathlib.Core.Path.{◌≡◌, refl, sym, ap}
use mathlib.Core.Bool.{Bool, true, false}
use mathlib.Core.Logic.{◌⊎◌, inl, inr}
use mathlib.Core.List.{List, [], ◌∷◌, ◌++◌}
use Prim.Native.Nat.{ℕ, zero, suc, ◌+◌, ◌≤◌, ◌<◌}
use native.Mathlib.Nat.{zero-lt-suc}
use native.Mathlib.Omega.{arith}
use lib.ListN.{length, get_or, take}
use Rattle.doubles.specs.Inner.Order.{Behind, Strict, Each, OrderedFrom, is, often, Same}
use Rattle.doubles.proofs.Laws.Counts.{is_self, each-cons, each_append, counted_each}

-- ---- a number at the head of a list in order
module _ {ahead : ℕ → ℕ → Bool} where
  pub ordered_cons : (a : ℕ) (l : List ℕ) → Each (λ x. Behind ahead x a) l → OrderedFrom ahead 0 l → OrderedFrom ahead 0 (a ∷ l)
  ordered_cons a l f r = record { each = go }
    where
      go : (i k : ℕ) → i < k → 0 ≤ k → k < suc (length l) → Behind ahead (get_or (a ∷ l) k 0) (get_or (a ∷ l) i 0)
      go zero zero h z g = absurd (omega arith)
      go zero (suc k) h z g = f.each k (omega arith)
      go (suc i) zero h z g = absurd (omega arith)
      go (suc i) (suc k) h z g = r.each i k (omega arith) (omega arith) (omega arith)

  pub ordered_head : (a : ℕ) (l : List ℕ) → OrderedFrom ahead 0 (a ∷ l) → Each (λ x. Behind ahead x a) l
  ordered_head a l r = record { each = λ k h. r.each 0 (suc k) (zero-lt-suc k) (omega arith) (omega arith) }

  pub ordered_tail : (a : ℕ) (l : List ℕ) → OrderedFrom ahead 0 (a ∷ l) → OrderedFrom ahead 0 l
  ordered_tail a l r = record { each = λ i k h z g. r.each (suc i) (suc k) (omega arith) (omega arith) (omega arith) }

module _ {ahead : ℕ → ℕ → Bool} {Good : ℕ → Type 0} (o : Strict ahead Good) where
  pub behind_self : (a : ℕ) → Behind ahead a a
  behind_self a = record { is = go (ahead a a) refl }
    where
      go : (t : Bool) → ahead a a ≡ t → ahead a a ≡ false
      go true e = (o.one_way a a e).is
      go false e = e

  -- ---- what stands in order, and ahead of all others, is the first part of the whole in order
  heads : (a b : ℕ) → (a ≡ b) ⊎ Behind ahead a b → (b ≡ a) ⊎ Behind ahead b a → a ≡ b
  heads a b (inl e) t = e
  heads a b (inr h) (inl e) = sym e
  heads a b (inr h) (inr k) = o.same a b h k

  led : (a : ℕ) (l : List ℕ) → Each (λ x. Behind ahead x a) l → Each (λ x. (x ≡ a) ⊎ Behind ahead x a) (a ∷ l)
  led a l f = each-cons (λ x. (x ≡ a) ⊎ Behind ahead x a) a l (inl refl) (record { each = λ k h. inr (f.each k h) })

  pub first_of : (s over l : List ℕ) → OrderedFrom ahead 0 s → Each (λ x. Each (Behind ahead x) s) over → OrderedFrom ahead 0 l → Same (s ++ over) l
      → s ≡ take (length s) l
  unfolding often
  first_of [] over l p b q e = refl
  first_of (a ∷ s) over [] p b q e = let i = is_self a in let n = e.each a in absurd (omega arith)
  first_of (a ∷ s) over (c ∷ l) p b q e = go (first_of s over l (ordered_tail a s p) over_tail (ordered_tail c l q))
    where
      over_tail : Each (λ x. Each (Behind ahead x) s) over
      over_tail = record { each = λ i h. record { each = λ k g. (b.each i h).each (suc k) (omega arith) } }

      over_head : Each (λ x. Behind ahead x a) over
      over_head = record { each = λ i h. (b.each i h).each 0 (zero-lt-suc (length s)) }

      here : a ≡ c
      here =
          let i = is_self a in let j = is_self c in
          let m = e.each a in let n = e.each c in
          heads a c
          (counted_each (λ x. (x ≡ c) ⊎ Behind ahead x c) a (c ∷ l) (omega arith) (led c l (ordered_head c l q)))
          (counted_each (λ x. (x ≡ a) ⊎ Behind ahead x a) c (a ∷ (s ++ over)) (omega arith)
          (led a (s ++ over) (each_append (λ x. Behind ahead x a) s over (ordered_head a s p) over_head)))

      tails : Same (s ++ over) l
      tails = record { each = λ x. one x (e.each x) (ap (is x) here) }
        where
          one : (x : ℕ) → is x a + often x (s ++ over) ≡ is x c + often x l → is x a ≡ is x c → often x (s ++ over) ≡ often x l
          one x m n = omega arith

      go : (Same (s ++ over) l → s ≡ take (length s) l) → a ∷ s ≡ c ∷ take (length s) l
      go f = let h = here in let t = f tails in cc
