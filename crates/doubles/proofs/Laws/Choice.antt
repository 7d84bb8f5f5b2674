-- Choices by a test. Assumes nothing.
use mathlib.Core.Path.{◌≡◌, refl}
use mathlib.Core.Bool.{Bool, true, false, false≢true}
use Prim.Native.Nat.{ℕ, zero, suc, ◌≤◌, ◌<◌}
use native.Mathlib.Nat.{zero-lt-suc, le_refl}
use lib.Dec.{T, ltb}
use lib.Ieee.{Float}
use borrow.Author.Tests.{ltb-false}
use Rattle.doubles.specs.Num.{pick, ◌and◌}
use Rattle.doubles.specs.Sign.{Turned}

-- a number that is not zero
pub positive : (n : ℕ) → (n ≡ 0 → ⊥) → 0 < n
positive zero h = absurd (h refl)
positive (suc n) h = zero-lt-suc n

-- the smaller of two numbers, as the definition of a working set picks it
pub smaller_most : (a b : ℕ) → pick (ltb b a) b a ≤ b
smaller_most a b = go (ltb b a) refl
  where
    go : (t : Bool) → ltb b a ≡ t → pick t b a ≤ b
    go true e = le_refl b
    go false e = ltb-false b a e

pub and_both : (a b : Bool) → a and b ≡ true → (a ≡ true) × (b ≡ true)
unfolding ◌and◌
and_both true b e = (refl, e)
and_both false b e = absurd (false≢true e)

-- by the same test; the second branch may know that it was taken
module _ {b b' : Bool} (e : b ≡ b') where
  pub same_else : {A : Type 0} {x x' y y' : A} → x ≡ x' → (b ≡ false → y ≡ y') → pick b x y ≡ pick b' x' y'
  same_else {A} {x} {x'} {y} {y'} p q = rw (← e) (go b q)
    where
      go : (c : Bool) → (c ≡ false → y ≡ y') → pick c x y ≡ pick c x' y'
      go true q = p
      go false q = q refl

  pub turned_else : {s : Bool} {x x' y y' : Float} → Turned s x x' → (b ≡ false → Turned s y y') → Turned s (pick b x y) (pick b' x' y')
  turned_else {s} {x} {x'} {y} {y'} p q = rw (← e) (go b q)
    where
      go : (c : Bool) → (c ≡ false → Turned s y y') → Turned s (pick c x y) (pick c x' y')
      go true q = p
      go false q = q refl

  pub turned-pick : {s : Bool} {x x' y y' : Float} → Turned s x x' → Turned s y y' → Turned s (pick b x y) (pick b' x' y')
  turned-pick p q = turned_else p (λ h. q)

-- two branches of which at most one is taken change places
pub turned_crossed : {s b c b' c' : Bool} {u u' v v' w w' : Float} → (T b → T c → ⊥) → c ≡ b' → b ≡ c'
    → Turned s u u' → Turned s v v' → Turned s w w' → Turned s (pick b u (pick c v w)) (pick b' v' (pick c' u' w'))
turned_crossed {s} {b} {c} {b'} {c'} {u} {u'} {v} {v'} {w} {w'} n d e p q r = rw (← d, ← e) (go b c n)
  where
    go : (b c : Bool) → (T b → T c → ⊥) → Turned s (pick b u (pick c v w)) (pick c v' (pick b u' w'))
    go true true n = absurd (n tt tt)
    go true false n = p
    go false true n = q
    go false false n = r
