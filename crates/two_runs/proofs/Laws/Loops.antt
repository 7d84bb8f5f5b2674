-- Choices, tests, loops and ends of two runs at once: what is related at the start, and what each step keeps related, is related at the end.
-- Assumes nothing.
use mathlib.Core.Path.{◌≡◌, refl, ap}
use mathlib.Core.Bool.{Bool, true, false}
use Prim.Native.Nat.{ℕ, zero, suc, ◌<◌}
use native.Mathlib.Omega.{arith}
use lib.Ieee.{Float}
use Rattle.doubles.specs.Num.{pick, ◌and◌, larger}
use Rattle.doubles.specs.Steps.{steps, all, largest, Stage, going, next, upto, and_then}
use Rattle.doubles.proofs.Laws.Steps.{steps-same}
use Rattle.doubles.specs.Answer.{refused, answered, Fault, none}
use Rattle.definition.specs.Run.{State}
use Rattle.definition.specs.Call.{End, concluded, behind}
use Rattle.two_runs.specs.Stages.{Stages, both-going, both_stopped, both-bad, Both, Ends, both-untouched, both-given_up, both-done}

-- ---- choices by one test; each branch may know that it was taken
pub related : {A : Type 0} (R : A → A → Type 0) {b b' : Bool} {x x' y y' : A} → b ≡ b' → (b ≡ true → R x x') → (b ≡ false → R y y')
    → R (pick b x y) (pick b' x' y')
related R {b} {b'} {x} {x'} {y} {y'} e p q = rw (← e) (go b p q)
  where
    go : (a : Bool) → (a ≡ true → R x x') → (a ≡ false → R y y') → R (pick a x y) (pick a x' y')
    go true p q = p refl
    go false p q = q refl

-- ---- tests and the largest
pub all_same : (f g : ℕ → Bool) (n : ℕ) → ((i : ℕ) → i < n → f i ≡ g i) → all f n ≡ all g n
all_same f g n h = steps-same (λ i b. b and f i) (λ i b. b and g i) n true (λ k l b. ap (λ (x : Bool). b and x) (h k l))

pub largest-same : (f g : ℕ → Float) (n : ℕ) → ((i : ℕ) → i < n → f i ≡ g i) → largest f n ≡ largest g n
largest-same f g n h = steps-same (λ i v. larger v (f i)) (λ i v. larger v (g i)) n _ (λ k l v. ap (λ (x : Float). larger v x) (h k l))

-- ---- loops that keep a relation, which may go by the step
pub steps_related : {A : Type 0} (R : ℕ → A → A → Type 0) (f g : ℕ → A → A) (n : ℕ) (a b : A) → R 0 a b
    → ((k : ℕ) → k < n → (x y : A) → R k x y → R (suc k) (f k x) (g k y)) → R n (steps f n a) (steps g n b)
unfolding steps
steps_related R f g zero a b r h = r
steps_related R f g (suc n) a b r h = h n (omega arith) _ _ (steps_related R f g n a b r (λ k l. h k (omega arith)))

-- ---- stages
module _ {A : Type 0} where
  pub stages_map : {G E G' E' : A → A → Type 0} → ((a b : A) → G a b → G' a b) → ((a b : A) → E a b → E' a b) → {x y : Stage A} → Stages G E x y
      → Stages G' E' x y
  stages_map g e (both-going r) = both-going (g _ _ r)
  stages_map g e (both_stopped r) = both_stopped (e _ _ r)
  stages_map g e both-bad = both-bad

  pub then_related : {B : Type 0} {R : A → A → Type 0} {G E : B → B → Type 0} (f g : A → Stage B) → ((a b : A) → R a b → Stages G E (f a) (g b))
      → {x y : Stage A} → Both R x y → Stages G E (and_then x f) (and_then y g)
  then_related f g h (both-going r) = h _ _ r
  then_related f g h (both_stopped r) = h _ _ r
  then_related f g h both-bad = both-bad

  next_related : {I J E : A → A → Type 0} (f g : A → Stage A) → ((a b : A) → I a b → Stages J E (f a) (g b)) → {x y : Stage A} → Stages I E x y
      → Stages J E (next f x) (next g y)
  next_related f g h (both-going r) = h _ _ r
  next_related f g h (both_stopped r) = both_stopped r
  next_related f g h both-bad = both-bad

  -- I k relates what goes on before step k, and E what stops
  pub upto_related : (I : ℕ → A → A → Type 0) (E : A → A → Type 0) (f g : ℕ → A → Stage A) (n : ℕ) (a b : A) → I 0 a b
      → ((k : ℕ) → k < n → (x y : A) → I k x y → Stages (I (suc k)) E (f k x) (g k y)) → Stages (I n) E (upto f n a) (upto g n b)
  upto_related I E f g n a b r h =
      steps_related (λ (k : ℕ). Stages (I k) E) (λ k. next (f k)) (λ k. next (g k)) n (going a) (going b) (both-going r)
      (λ k l x y. next_related (f k) (g k) (h k l))

-- ---- ends
module _ {R : State → State → Type 0} where
  pub ends_map : {R' : State → State → Type 0} → ((s s' : State) → R s s' → R' s s') → {e e' : End} → Ends R e e' → Ends R' e e'
  ends_map h both-untouched = both-untouched
  ends_map h both-given_up = both-given_up
  ends_map h (both-done r) = both-done (h _ _ r)

  pub concluded_related : {r r' : Stage State} → Both R r r' → Ends R (concluded r) (concluded r')
  concluded_related (both-going r) = both-given_up
  concluded_related (both_stopped r) = both-done r
  concluded_related both-bad = both-given_up

  -- behind the same tests; what follows need be related only where they find nothing
  pub behind_related : {f f' : Fault} {e e' : End} → f ≡ f' → (f ≡ none → Ends R e e') → Ends R (behind f e) (behind f' e')
  behind_related {f} {f'} {e} {e'} q h = rw (← q) (go f h)
    where
      go : (f : Fault) → (f ≡ none → Ends R e e') → Ends R (behind f e) (behind f e')
      go (answered u) h = h refl
      go (refused number place) h = both-untouched
