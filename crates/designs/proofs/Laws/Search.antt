-- What the first place found says, and the turns of a loop that looks for it. Assumes nothing.
use mathlib.Core.Path.{◌≡◌, refl, sym, ◌∙◌}
use mathlib.Core.Bool.{Bool, true, false}
use Prim.Native.Nat.{ℕ, zero, suc, ◌+◌, ◌-◌, ◌<◌}
use native.Mathlib.Nat.{add-zero, add-suc}
use native.Mathlib.Omega.{arith}
use borrow.Author.Count.{below_more}
use Rattle.doubles.specs.Steps.{steps}
use Rattle.doubles.proofs.Laws.Steps.{steps-more}
use Rattle.designs.specs.Search.{or_else, first_of, mark}
use Rattle.std.specs.Prelude.{Option, Some, None}

pub unmarked : (b : Bool) (m : ℕ) → mark b m ≡ None → b ≡ false
unmarked false m e = refl
unmarked true m e = absurd (let z : ◌≡◌ {A = ℕ} 0 1 = cc in omega arith)

pub marked : (b : Bool) (i m : ℕ) → mark b i ≡ Some m → (b ≡ true) × (i ≡ m)
marked true i m e = (refl, cc)
marked false i m e = absurd (let z : ◌≡◌ {A = ℕ} 0 1 = cc in omega arith)

-- ---- for the loops: nothing found yet, and the next place has nothing; the next place has something
module _ (f : ℕ → Option ℕ) where
  pub first_on : (k : ℕ) (x : Option ℕ) → None ≡ first_of f k → x ≡ f k → x ≡ None → None ≡ first_of f (k + 1)
  first_on k x e q h = sym h ∙ q ∙ steps-more (λ k r. or_else r (f k)) None k None e

  stays : (k d m : ℕ) → Some m ≡ first_of f k → Some m ≡ first_of f (k + d)
  unfolding steps
  stays k zero m e = rw add-zero e
  stays k (suc d) m e = rw (add-suc k d, ← stays k d m e)

  pub first_here : (k n m : ℕ) (x : Option ℕ) → None ≡ first_of f k → x ≡ f k → x ≡ Some m → k < n → Some m ≡ first_of f n
  first_here k n m x e q h l =
      let d : k + 1 + (n - (k + 1)) ≡ n = omega arith in
      rw d at (stays (k + 1) (n - (k + 1)) m (sym h ∙ q ∙ steps-more (λ k r. or_else r (f k)) None k None e))

-- the same where a place is found because it is bad
module _ (bad : ℕ → Bool) (place : ℕ → ℕ) (k : ℕ) (b : Bool) (e : None ≡ first_of (λ i. mark (bad i) (place i)) k) (q : b ≡ bad k) where
  pub mark_on : b ≡ false → None ≡ first_of (λ i. mark (bad i) (place i)) (k + 1)
  mark_on h = first_on (λ i. mark (bad i) (place i)) k (mark b (place k)) e (rw q) (rw h)

  pub mark_here : (n : ℕ) → b ≡ true → k < n → Some (place k) ≡ first_of (λ i. mark (bad i) (place i)) n
  mark_here n h l = first_here (λ i. mark (bad i) (place i)) k n (place k) (mark b (place k)) e (rw q) (rw h) l

module _ (f : ℕ → Option ℕ) where
  -- ---- what the search says: nothing is found exactly where no place has anything, and what is found is the first
  both : (a b : Option ℕ) → or_else a b ≡ None → (a ≡ None) × (b ≡ None)
  both (Some k) b e = absurd (let z : ◌≡◌ {A = ℕ} 0 1 = cc in omega arith)
  both None b e = (refl, e)

  pub first-none : (n : ℕ) → first_of f n ≡ None → (i : ℕ) → i < n → f i ≡ None
  unfolding steps
  first-none zero e i h = absurd (omega (arith, h))
  first-none (suc n) e i h =
      let q = both (first_of f n) (f n) e in
      below_more (λ (k : ℕ). f k ≡ None) n (first-none n q.0) q.1 i (omega arith)

  pub none_first : (n : ℕ) → ((i : ℕ) → i < n → f i ≡ None) → first_of f n ≡ None
  unfolding steps
  none_first zero h = refl
  none_first (suc n) h = rw (none_first n (λ i l. h i (omega arith)), h n (omega arith))

  -- what is found is what f finds at one place, and below that it finds nothing
  pub record FirstAt (n m : ℕ) : Type 0 where
    pub spot : ℕ
    pub inside : spot < n
    pub here : f spot ≡ Some m
    pub before : (i : ℕ) → i < spot → f i ≡ None

  by_last : (n m : ℕ) (a : Option ℕ) → first_of f n ≡ a → or_else a (f n) ≡ Some m → (first_of f n ≡ Some m → FirstAt n m) → FirstAt (suc n) m
  by_last n m (Some k) q e below =
      let r = below (q ∙ e) in
      record { spot = r.spot; inside = omega (arith, r.inside); here = r.here; before = r.before }
  by_last n m None q e below = record { spot = n; inside = omega arith; here = e; before = first-none n q }

  pub first_found : (n m : ℕ) → first_of f n ≡ Some m → FirstAt n m
  unfolding steps
  first_found zero m e = absurd (let z : ◌≡◌ {A = ℕ} 0 1 = cc in omega arith)
  first_found (suc n) m e = by_last n m (first_of f n) refl e (first_found n m)
