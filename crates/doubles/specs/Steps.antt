-- Sums, tables and loops, all by one combinator.
use Rattle.std.specs.Prelude.{ℕ, zero, suc, ◌+◌, ◌-◌, Bool, true, false, List, [], ◌∷◌, ◌++◌, Float}
use Rattle.std.specs.Float.{inf}
use Rattle.doubles.specs.Num.{◌⊕◌, #0, larger, ◌and◌}

-- f 0, then f 1, .. and at last f (n - 1), each applied to what the one before gave
unfoldable pub steps : {A : Type 0} → (ℕ → A → A) → ℕ → A → A
steps f zero a = a
steps f (suc k) a = f k (steps f k a)

-- "A sum starts at +0.0 and adds its terms from left to right"
abbrev pub sum : (ℕ → Float) → ℕ → Float
sum t n = steps (λ i s. s ⊕ t i) n #0

-- the largest of t 0 .. t (n - 1) and a
abbrev pub largest_from : Float → (ℕ → Float) → ℕ → Float
largest_from a t n = steps (λ i v. larger v (t i)) n a

-- "The largest violation is folded from minus infinity"
abbrev pub largest : (ℕ → Float) → ℕ → Float
largest t n = largest_from (inf true) t n

-- f 0, f 1, .. f (n - 1)
abbrev pub tab : {A : Type 0} → (ℕ → A) → ℕ → List A
tab f n = steps (λ i l. l ++ (f i ∷ [])) n []

-- n times +0
abbrev pub zeros : ℕ → List Float
zeros n = tab (λ i. #0) n

-- whether g holds of 0 .. n - 1
abbrev pub all : (ℕ → Bool) → ℕ → Bool
all g n = steps (λ i b. b and g i) n true

-- f at a, a + 1, .. e - 1
unfoldable pub upward : {A : Type 0} → (ℕ → A → A) → ℕ → ℕ → A → A
upward f a e s = steps (λ k. f (a + k)) (e - a) s

-- f at e - 1, .. 0, of which the first n
unfoldable pub downward : {A : Type 0} → (ℕ → A → A) → ℕ → ℕ → A → A
downward f e n s = steps (λ k. f (e - suc k)) n s

-- ---- a loop that may stop early, or break off
-- it goes on with a, it has stopped at a, or a number was not finite (refusal 7)
pub data Stage (A : Type 0) : Type 0 where
  going : A → Stage A
  stopped : A → Stage A
  bad : Stage A

abbrev pub next : {A : Type 0} → (A → Stage A) → Stage A → Stage A
next f (going a) = f a
next f (stopped a) = stopped a
next f bad = bad

-- f 0, f 1, .. at most n of them, till one stops or breaks off
abbrev pub upto : {A : Type 0} → (ℕ → A → Stage A) → ℕ → A → Stage A
upto f n a = steps (λ k. next (f k)) n (going a)

-- and then g, stopped early or not
abbrev pub and_then : {A B : Type 0} → Stage A → (A → Stage B) → Stage B
and_then (going a) g = g a
and_then (stopped a) g = g a
and_then bad g = bad

abbrev pub over : {A : Type 0} → Stage A → Bool
over (going a) = false
over (stopped a) = true
over bad = true
