-- What the functions that choose features speak of: the order of two features, a heap, and what has been chosen.
use Rattle.std.specs.Prelude.{◌≡◌, Bool, true, not, List, ◌++◌, ℕ, ◌+◌, ◌*◌, ◌≤◌, ◌<◌, ltb, length, get_or, set, Float}
use Rattle.std.specs.Float.Ieee.{lt}
use Rattle.doubles.specs.Num.{at, pick, finite, ◌and◌, ◌or◌}
use Rattle.doubles.specs.Inner.Order.{Behind, Each, Same}
use Rattle.definition.specs.WorkingSet.{is_zero, others}

-- ---- the order
-- a stands ahead of b: by a larger violation, or, where neither is larger, by a lower index
unfoldable pub ahead : List Float → ℕ → ℕ → Bool
ahead v a b = lt (at v b) (at v a) or (not (lt (at v a) (at v b)) and ltb a b)

-- a feature whose violation can be compared
pub record Number (v : List Float) (a : ℕ) : Type 0 where
  pub inside : a < length v
  pub known : finite (at v a) ≡ true

-- the violations at zero weights are finite
pub record Numbers (v w : List Float) : Type 0 where
  pub each : (j : ℕ) → j < length w → is_zero w j ≡ true → finite (at v j) ≡ true

-- ---- heaps, by any order
-- places 2i + 1 and 2i + 2 lie below place i and hold nothing behind it, for each i from a place on
pub record Heap (ahead : ℕ → ℕ → Bool) (from : ℕ) (l : List ℕ) : Type 0 where
  pub each : (i k : ℕ) → from ≤ i → 2 * i < k → k ≤ 2 * i + 2 → k < length l → Behind ahead (get_or l i 0) (get_or l k 0)

-- r is the one of left and left + 1 that is behind the other, or the only one
pub record LastOf (ahead : ℕ → ℕ → Bool) (l : List ℕ) (left r : ℕ) : Type 0 where
  pub low : left ≤ r
  pub high : r ≤ left + 1
  pub inside : r < length l
  pub each : (k : ℕ) → left ≤ k → k ≤ left + 1 → k < length l → Behind ahead (get_or l r 0) (get_or l k 0)

-- x at place k either stays there, or goes to r below it
pub record Goes (ahead : ℕ → ℕ → Bool) (l : List ℕ) (k x r : ℕ) : Type 0 where
  pub low : k ≤ r
  pub stays : r ≤ k → (i : ℕ) → 2 * k < i → i ≤ 2 * k + 2 → i < length l → Behind ahead x (get_or l i 0)
  pub under : k < r → (2 * k < r) × (r ≤ 2 * k + 2) × (r < length l)
  pub up : k < r → Behind ahead (get_or l r 0) x
  pub last : k < r → (i : ℕ) → 2 * k < i → i ≤ 2 * k + 2 → i < length l → Behind ahead (get_or l r 0) (get_or l i 0)

-- ---- choosing
-- what an offer makes of a heap: j at the root, if its weight is zero and it stands ahead of the root
unfoldable pub offered : List Float → Bool → ℕ → List ℕ → List ℕ
offered v zero j l = pick (zero and ahead v j (get_or l 0 0)) (set l 0 j) l

-- l holds the first of the features with zero weight: all that are left over stand behind each of l
pub record Chosen (v w : List Float) (l : List ℕ) : Type 0 where
  pub over : List ℕ
  pub behind : Each (λ x. Each (Behind (ahead v) x) l) over
  pub all : Same (l ++ over) (others v w (length w))
