-- How a test of all and a loop that may stop early end: by the first that fails, by the last turn; and what every turn keeps holds where the loop ends.
-- Assumes nothing.
use mathlib.Core.Path.{◌≡◌, refl, sym, ◌∙◌}
use mathlib.Core.Bool.{Bool, true, false, true≢false, false≢true}
use mathlib.Core.Logic.{◌⊎◌, inl, inr, ⊎_elim}
use Prim.Native.Nat.{ℕ, zero, suc, ◌<◌}
use native.Mathlib.Omega.{arith}
use Rattle.doubles.specs.Num.{◌and◌, ◌or◌}
use Rattle.doubles.specs.Steps.{steps, all, Stage, going, stopped, bad, upto, over}
use Rattle.doubles.specs.Answer.{refused, answered}
use Rattle.doubles.proofs.Laws.Steps.{all-each}

-- ---- connectives
pub and-fails : (a b : Bool) → (a and b) ≡ false → (a ≡ false) ⊎ (b ≡ false)
unfolding ◌and◌
and-fails true b e = inr e
and-fails false b e = inl refl

pub first-fails : (a b : Bool) → a ≡ false → (a and b) ≡ false
unfolding ◌and◌
first-fails a b e = rw e

pub second-fails : (a b : Bool) → b ≡ false → (a and b) ≡ false
unfolding ◌and◌
second-fails true b e = e
second-fails false b e = refl

pub or-fails : (a b : Bool) → (a or b) ≡ false → (a ≡ false) × (b ≡ false)
unfolding ◌or◌
or-fails true b e = absurd (true≢false e)
or-fails false b e = (refl, e)

pub or_else : (a b : Bool) → a or b ≡ true → a ≡ false → b ≡ true
unfolding ◌or◌
or_else true b h e = absurd (true≢false e)
or_else false b h e = h

pub neither_holds : (a b : Bool) → a ≡ false → b ≡ false → (a or b) ≡ false
unfolding ◌or◌
neither_holds a b h k = rw (h, k)

-- ---- whether all hold
module _ (g : ℕ → Bool) where
  -- one fails, and so they do not all hold; and the other way round
  pub all_fail : (n i : ℕ) → i < n → g i ≡ false → all g n ≡ false
  all_fail n i l e = go (all g n) refl
    where
      go : (b : Bool) → all g n ≡ b → b ≡ false
      go true q = absurd (true≢false (sym (all-each g n q i l) ∙ e))
      go false q = refl

  pub record Fails (n : ℕ) : Type 0 where
    pub place : ℕ
    pub inside : place < n
    pub fails : g place ≡ false

  pub one_fails : (n : ℕ) → all g n ≡ false → Fails n
  unfolding steps
  one_fails zero e = absurd (true≢false e)
  one_fails (suc n) e =
      ⊎_elim
      (λ h. let f = one_fails n h in record { place = f.place; inside = omega (arith, f.inside); fails = f.fails })
      (λ h. record { place = n; inside = omega arith; fails = h })
      (and-fails (all g n) (g n) e)

-- ---- the stages are apart, and so are refusals and answers
pub going≢bad : {A : Type 0} {a : A} → going a ≡ bad → ⊥
going≢bad e = let n : ◌≡◌ {A = ℕ} 0 1 = cc in omega arith

pub stopped≢bad : {A : Type 0} {a : A} → stopped a ≡ bad → ⊥
stopped≢bad e = let n : ◌≡◌ {A = ℕ} 0 1 = cc in omega arith

pub going≢stopped : {A : Type 0} {a b : A} → going a ≡ stopped b → ⊥
going≢stopped e = let n : ◌≡◌ {A = ℕ} 0 1 = cc in omega arith

pub refused≢answered : {A : Type 0} {number place : ℕ} {a : A} → refused number place ≡ answered a → ⊥
refused≢answered e = let n : ◌≡◌ {A = ℕ} 0 1 = cc in omega arith

-- ---- a loop that is over: one turn was its last
module _ {A : Type 0} (f : ℕ → A → Stage A) (a : A) where
  pub record Last (n : ℕ) : Type 0 where
    pub turn : ℕ
    pub before : A
    pub inside : turn < n
    pub reached : upto f turn a ≡ going before
    pub last : f turn before ≡ upto f n a

  later : (n : ℕ) → upto f (suc n) a ≡ upto f n a → Last n → Last (suc n)
  later n e l = record { turn = l.turn; before = l.before; inside = omega (arith, l.inside); reached = l.reached; last = l.last ∙ sym e }

  pub last_turn : (n : ℕ) → over (upto f n a) ≡ true → Last n
  unfolding steps
  last_turn zero e = absurd (false≢true e)
  last_turn (suc n) e = go (upto f n a) refl (last_turn n)
    where
      go : (x : Stage A) → upto f n a ≡ x → (over (upto f n a) ≡ true → Last n) → Last (suc n)
      go (going b) q r = record { turn = n; before = b; inside = omega arith; reached = q; last = rw q }
      go (stopped b) q r = later n (rw q) (r (rw q))
      go bad q r = later n (rw q) (r (rw q))

-- ---- what every turn keeps
pub steps-keeps : {A : Type 0} (P : A → Type 0) (f : ℕ → A → A) (n : ℕ) (a : A) → P a → ((k : ℕ) → k < n → (x : A) → P x → P (f k x)) → P (steps f n a)
unfolding steps
steps-keeps P f zero a p h = p
steps-keeps P f (suc n) a p h = h n (omega arith) (steps f n a) (steps-keeps P f n a p (λ k l. h k (omega arith)))
