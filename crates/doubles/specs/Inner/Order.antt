-- Numbers in order, for inner functions that choose or sort: `ahead` is any test of two numbers. No public promise names any of it.
use Rattle.std.specs.Prelude.{◌≡◌, Bool, true, false, List, [], ◌∷◌, ℕ, ◌+◌, ◌≤◌, ◌<◌, eqb, length, get_or}
use Rattle.doubles.specs.Num.{pick}

-- a is b, or stands behind it
pub record Behind (ahead : ℕ → ℕ → Bool) (a b : ℕ) : Type 0 where
  pub is : ahead a b ≡ false

-- a strict order, told by what is behind: of two numbers just one is ahead unless they are the same, and behind is transitive among good numbers
pub record Strict (ahead : ℕ → ℕ → Bool) (Good : ℕ → Type 0) : Type 0 where
  pub one_way : (a b : ℕ) → ahead a b ≡ true → Behind ahead b a
  pub same : (a b : ℕ) → Behind ahead a b → Behind ahead b a → a ≡ b
  pub through : (a b c : ℕ) → Good a → Good b → Good c → Behind ahead a b → Behind ahead b c → Behind ahead a c

-- ---- lists
-- what holds of each number of a list
pub record Each (P : ℕ → Type 0) (l : List ℕ) : Type 0 where
  pub each : (k : ℕ) → k < length l → P (get_or l k 0)

-- in order from place c on: whatever stands before a place from c on is ahead of what it holds
pub record OrderedFrom (ahead : ℕ → ℕ → Bool) (c : ℕ) (l : List ℕ) : Type 0 where
  pub each : (i k : ℕ) → i < k → c ≤ k → k < length l → Behind ahead (get_or l k 0) (get_or l i 0)

-- how often a number stands in a list
unfoldable pub is : ℕ → ℕ → ℕ
is a b = pick (eqb a b) 1 0

unfoldable pub often : ℕ → List ℕ → ℕ
often a [] = 0
often a (b ∷ l) = is a b + often a l

-- the same numbers, each as often
pub record Same (l m : List ℕ) : Type 0 where
  pub each : (a : ℕ) → often a l ≡ often a m
