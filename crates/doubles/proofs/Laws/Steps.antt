-- Laws of `steps`, `tab`, `upward`, `downward` and `upto`, for the loops that compute them: the invariant is the prefix.
-- Assumes nothing.
use mathlib.Core.Path.{◌≡◌, refl, sym, ◌∙◌, ap}
use mathlib.Core.Bool.{Bool, true, false, false≢true}
use mathlib.Core.List.{List, [], ◌∷◌, ◌++◌, append_assoc, append-nil}
use Prim.Native.Nat.{ℕ, zero, suc, ◌+◌, ◌-◌, ◌≤◌, ◌<◌}
use native.Mathlib.Decide.{ℕ_discrete}
use native.Mathlib.Numerals.{add-one}
use native.Mathlib.Nat.{le_antisymm, add-zero, add-suc}
use native.Mathlib.Omega.{arith}
use borrow.Author.Count.{below_more}
use lib.ListN.{length, get_or, set, drop, replicate, length-append, drop_of_length-le, get_or-append}
use lib.Seq.{drop-cons, get_or_at, set_at, get_or-set_same, get_or-set_other}
use Rattle.doubles.specs.Num.{pick, ◌and◌}
use Rattle.doubles.specs.Steps.{steps, tab, all, upward, downward, Stage, going, stopped, bad, next, upto, over}
use Rattle.doubles.proofs.Laws.Choice.{and_both}

-- before the first turn, after one more, and at the end, where i has reached n
module _ {A : Type 0} (f : ℕ → A → A) (a : A) where
  pub steps-none : a ≡ steps f 0 a
  unfolding steps
  steps-none = refl

  pub steps-more : (k : ℕ) (b : A) → b ≡ steps f k a → f k b ≡ steps f (k + 1) a
  unfolding steps
  steps-more k b e = rw (add-one, e)

  -- the same, with what the turn left under a name of its own
  pub steps-turn : (k : ℕ) (b t : A) → b ≡ steps f k a → t ≡ f k b → t ≡ steps f (k + 1) a
  steps-turn k b t e q = q ∙ steps-more k b e

  pub steps_all : (i n : ℕ) (b : A) → b ≡ steps f i a → i ≤ n → n ≤ i → b ≡ steps f n a
  steps_all i n b e p q = rw (← le_antisymm p q) e

-- two loops with the same turns
pub steps-same : {A : Type 0} (f g : ℕ → A → A) (n : ℕ) (a : A) → ((k : ℕ) → k < n → (b : A) → f k b ≡ g k b) → steps f n a ≡ steps g n a
unfolding steps
steps-same f g zero a h = refl
steps-same f g (suc n) a h = rw (steps-same f g n a (λ k l. h k (omega arith))) (h n (omega arith) (steps g n a))

-- ---- from a on, upward
module _ {A : Type 0} (f : ℕ → A → A) (a : ℕ) (s : A) where
  pub upward-none : s ≡ upward f a a s
  unfolding upward
  upward-none = let z : a - a ≡ 0 = omega arith in rw z (steps-none (λ k. f (a + k)) s)

  pub upward-more : (i : ℕ) (b : A) → a ≤ i → b ≡ upward f a i s → f i b ≡ upward f a (i + 1) s
  unfolding upward
  upward-more i b h e =
      let d : i + 1 - a ≡ i - a + 1 = omega arith in
      let j : a + (i - a) ≡ i = omega arith in
      rw (d, ← steps-more (λ k. f (a + k)) s (i - a) b e, j)

  -- the same, with what the turn left under a name of its own
  pub upward-turn : (i : ℕ) (b t : A) → a ≤ i → b ≡ upward f a i s → t ≡ f i b → t ≡ upward f a (i + 1) s
  upward-turn i b t h e q = q ∙ upward-more i b h e

  pub upward-all : (i n : ℕ) (b : A) → b ≡ upward f a i s → i ≤ n → n ≤ i → b ≡ upward f a n s
  upward-all i n b e p q = rw (← le_antisymm p q) e

-- ---- from e - 1 on, downward: where j is what the loop's variable has reached
module _ {A : Type 0} (f : ℕ → A → A) (e : ℕ) (s : A) where
  pub downward-none : s ≡ downward f e (e - e) s
  unfolding downward
  downward-none = let z : e - e ≡ 0 = omega arith in rw z (steps-none (λ k. f (e - suc k)) s)

  pub downward-more : (j : ℕ) (b : A) → 0 < j → j ≤ e → b ≡ downward f e (e - j) s → f (j - 1) b ≡ downward f e (e - (j - 1)) s
  unfolding downward
  downward-more j b l h q =
      let d : e - (j - 1) ≡ e - j + 1 = omega arith in
      let i : e - suc (e - j) ≡ j - 1 = omega arith in
      rw (d, ← steps-more (λ k. f (e - suc k)) s (e - j) b q, i)

  pub downward-turn : (j : ℕ) (b t : A) → 0 < j → j ≤ e → b ≡ downward f e (e - j) s → t ≡ f (j - 1) b → t ≡ downward f e (e - (j - 1)) s
  downward-turn j b t l h q r = r ∙ downward-more j b l h q

  pub downward-all : (j : ℕ) (b : A) → j ≤ 0 → b ≡ downward f e (e - j) s → b ≡ downward f e e s
  downward-all j b h q = let z : e - j ≡ e = omega arith in rw z at q

-- ---- a loop that writes each place of a list l, upward: what is written is `tab g i`, what is left is `drop i l`
module _ {A : Type 0} (g : ℕ → A) where
  pub tab-suc : (i : ℕ) → tab g (i + 1) ≡ tab g i ++ (g i ∷ [])
  tab-suc i = sym (steps-more _ _ i (tab g i) refl)

  pub length-tab : (i : ℕ) → length (tab g i) ≡ i
  unfolding steps
  length-tab zero = refl
  length-tab (suc i) = length-append (tab g i) (g i ∷ []) ∙ rw (length-tab i, add-one)

  pub tab-none : (l : List A) → l ≡ tab g 0 ++ drop 0 l
  unfolding steps
  tab-none l = refl

  module _ (l m : List A) (i : ℕ) (e : m ≡ tab g i ++ drop i l) where
    -- the place that comes next holds what it held
    pub tab_here : (d : A) → i < length l → get_or m i d ≡ get_or l i d
    tab_here d h = rw (e, drop-cons l i d h) (get_or_at (tab g i) (get_or l i d) (drop (suc i) l) d i (length-tab i))

    pub tab-more : (v : A) → i < length l → v ≡ g i → set m i v ≡ tab g (i + 1) ++ drop (i + 1) l
    tab-more v h q =
        rw (e, q, drop-cons l i (g i) h, tab-suc i, append_assoc, add-one) (set_at (tab g i) (get_or l i (g i)) (drop (suc i) l) (g i) i (length-tab i))

    pub tab-all : (n : ℕ) → length l ≡ n → i ≤ n → n ≤ i → m ≡ tab g n
    tab-all n q a b =
        let h : length l ≤ i = omega arith in
        e ∙ rw (drop_of_length-le l {i = i} h, append-nil, le_antisymm a b)

-- a table's entry, and two tables with the same entries
pub get_or-tab : {A : Type 0} (g : ℕ → A) (n i : ℕ) (d : A) → i < n → get_or (tab g n) i d ≡ g i
unfolding steps
get_or-tab g zero i d h = absurd (omega (arith, h))
get_or-tab g (suc n) i d h =
    below_more (λ (k : ℕ). get_or (tab g (suc n)) k d ≡ g k) n
    (λ k l. get_or-append (tab g n) (g n ∷ []) d k (rw length-tab l) ∙ get_or-tab g n k d l)
    (get_or_at (tab g n) (g n) [] d n (length-tab g n))
    i (omega arith)

pub tab-same : {A : Type 0} (f g : ℕ → A) (n : ℕ) → ((i : ℕ) → i < n → f i ≡ g i) → tab f n ≡ tab g n
unfolding steps
tab-same f g zero h = refl
tab-same f g (suc n) h = rw (tab-same f g n (λ i k. h i (omega arith)), h n (omega arith))

-- a store, looked up: what holds of the new entry in its place, and of the old ones in the others
pub set-place : {A : Type 0} (l : List A) (k : ℕ) (x d : A) (P : A → Type 0) (i : ℕ) → (i ≡ k → k < length l) → (i ≡ k → P x) → ((i ≡ k → ⊥) → P (get_or l i d))
    → P (get_or (set l k x) i d)
set-place l k x d P i h p q = go (ℕ_discrete i k)
  where
    go : Dec (i ≡ k) → P (get_or (set l k x) i d)
    go (yes e) = rw (e, get_or-set_same l k x d (h e)) (p e)
    go (no n) = rw (get_or-set_other l k i x d n) (q n)

-- ---- whether all hold
module _ (g : ℕ → Bool) where
  pub all_more : (k : ℕ) → true ≡ all g k → g k ≡ true → true ≡ all g (k + 1)
  unfolding ◌and◌
  all_more k e h = sym h ∙ steps-more (λ i b. b and g i) true k true e

  broken : (k d : ℕ) → false ≡ all g k → false ≡ all g (k + d)
  unfolding steps ◌and◌
  broken k zero e = rw add-zero e
  broken k (suc d) e = rw (add-suc k d, ← broken k d e)

  -- one that does not, and all before it do
  pub all_broken : (k n : ℕ) → true ≡ all g k → g k ≡ false → k < n → false ≡ all g n
  unfolding ◌and◌
  all_broken k n e h l =
      let d : k + 1 + (n - (k + 1)) ≡ n = omega arith in
      rw d at (broken (k + 1) (n - (k + 1)) (sym h ∙ steps-more (λ i b. b and g i) true k true e))

  pub all-each : (n : ℕ) → all g n ≡ true → (i : ℕ) → i < n → g i ≡ true
  unfolding steps
  all-each zero e i h = absurd (omega (arith, h))
  all-each (suc n) e i h =
      let q = and_both (all g n) (g n) e in
      below_more (λ (k : ℕ). g k ≡ true) n (all-each n q.0) q.1 i (omega arith)

-- ---- a loop that may stop early
-- a turn that goes on where all is well, and breaks off otherwise
pub picked : {A : Type 0} (b : Bool) (x y : A) → going y ≡ pick b (going x) bad → (b ≡ true) × (y ≡ x)
picked true x y e = (refl, cc)
picked false x y e = (cc, cc)

pub not_picked : {A : Type 0} (b : Bool) (x : A) → bad ≡ pick b (going x) bad → b ≡ false
not_picked true x e = cc
not_picked false x e = refl

next-over : {A : Type 0} (g : A → Stage A) (x : Stage A) → over x ≡ true → x ≡ next g x
next-over g (going a) h = absurd (false≢true h)
next-over g (stopped a) h = refl
next-over g bad h = refl

module _ {A : Type 0} (f : ℕ → A → Stage A) (a₀ : A) where
  -- turn k went on with b
  pub upto-more : (k : ℕ) (a b : A) → going a ≡ upto f k a₀ → going b ≡ f k a → going b ≡ upto f (k + 1) a₀
  upto-more k a b e q = q ∙ steps-more (λ i. next (f i)) (going a₀) k (going a) e

  ended : (k d : ℕ) (x : Stage A) → over x ≡ true → x ≡ upto f k a₀ → x ≡ upto f (k + d) a₀
  unfolding steps
  ended k zero x o e = rw add-zero e
  ended k (suc d) x o e = rw (add-suc k d, ← ended k d x o e) (next-over (f (k + d)) x o)

  -- turn k was the last
  pub upto-over : (k n : ℕ) (a : A) (x : Stage A) → going a ≡ upto f k a₀ → x ≡ f k a → over x ≡ true → k < n → x ≡ upto f n a₀
  upto-over k n a x e q o h =
      let m : k + 1 + (n - (k + 1)) ≡ n = omega arith in
      rw m at (ended (k + 1) (n - (k + 1)) x o (q ∙ steps-more (λ i. next (f i)) (going a₀) k (going a) e))

  -- one turn more
  pub upto_next : (k n : ℕ) (a : A) → k ≡ n → going a ≡ upto f k a₀ → upto f (n + 1) a₀ ≡ f k a
  upto_next k n a h e = rw (← h) (sym (steps-more (λ i. next (f i)) (going a₀) k (going a) e))

  -- the same for a turn that answers by a bool: true, and b is left behind, or false
  pub upto_true : (k : ℕ) (a b : A) (r : Bool) → going a ≡ upto f k a₀ → pick r (going b) bad ≡ f k a → r ≡ true → going b ≡ upto f (k + 1) a₀
  upto_true k a b r e q t = upto-more k a b e (rw t at q)

  pub upto_false : (k n : ℕ) (a b : A) (r : Bool) → going a ≡ upto f k a₀ → pick r (going b) bad ≡ f k a → r ≡ false → k < n → bad ≡ upto f n a₀
  upto_false k n a b r e q t h = upto-over k n a bad e (rw t at q) refl h

-- ---- a loop over the places a, .. a + m - 1: at the end it is m turns
module _ {A : Type 0} (f : ℕ → A → A) (a : ℕ) (s : A) where
  pub upward-end : (m i : ℕ) (b : A) → b ≡ upward f a i s → (a ≤ a + m → i ≤ a + m) → a + m ≤ i → b ≡ steps (λ k. f (a + k)) m s
  unfolding upward
  upward-end m i b e p q =
      let d : i - a ≡ m = omega (arith, p (omega arith)) in
      rw d at e

-- the same of a test that all places pass, or one does not
module _ (g : ℕ → Bool) (a : ℕ) where
  pub upward_passed : (i : ℕ) → a ≤ i → true ≡ upward (λ k b. b and g k) a i true → g i ≡ true → true ≡ upward (λ k b. b and g k) a (i + 1) true
  unfolding ◌and◌
  upward_passed i h e q = sym q ∙ upward-more (λ k b. b and g k) a true i true h e

  pub upward_broken : (m i : ℕ) → a ≤ i → i < a + m → true ≡ upward (λ k b. b and g k) a i true → g i ≡ false → false ≡ all (λ k. g (a + k)) m
  unfolding upward
  upward_broken m i h l e q =
      let j : a + (i - a) ≡ i = omega arith in
      all_broken (λ k. g (a + k)) (i - a) m e (rw j q) (omega arith)

-- ---- what the library says, as a table or a test
replicate-turn : {A : Type 0} (x : A) (n : ℕ) → replicate n x ++ (x ∷ []) ≡ x ∷ replicate n x
replicate-turn x zero = refl
replicate-turn x (suc n) = ap (λ l. x ∷ l) (replicate-turn x n)

pub tab-replicate : {A : Type 0} (x : A) (n : ℕ) → replicate n x ≡ tab (λ j. x) n
unfolding steps
tab-replicate x zero = refl
tab-replicate x (suc n) = sym (replicate-turn x n) ∙ ap (λ l. l ++ (x ∷ [])) (tab-replicate x n)

-- a test is true just where each place passes
pub all_where : (g : ℕ → Bool) (n : ℕ) → ((i : ℕ) → i < n → g i ≡ true) → all g n ≡ true
unfolding steps ◌and◌
all_where g zero h = refl
all_where g (suc n) h = rw (all_where g n (λ i l. h i (omega arith))) (h n (omega arith))

pub all_just : (g : ℕ → Bool) (n : ℕ) (r : Bool) → (r ≡ true → (i : ℕ) → i < n → g i ≡ true) → (((i : ℕ) → i < n → g i ≡ true) → r ≡ true) → r ≡ all g n
all_just g n true h k = sym (all_where g n (h refl))
all_just g n false h k = go (all g n) refl
  where
    go : (b : Bool) → all g n ≡ b → false ≡ all g n
    go false e = sym e
    go true e = absurd (false≢true (k (all-each g n e)))
